-- What the steps of a recovery leave in the buffer.
use Rattle.std.specs.Prelude.{◌≡◌, List, ℕ, ◌-◌, ◌≤◌, ◌<◌, min, length}
use Rattle.std.specs.Int.Bits.{bit_xor}
use Rattle.letters.specs.Algebra.{xors}
use Rattle.shifts.specs.Rule.{t}
use Rattle.system.specs.System.{part}
use Rattle.system.specs.Order.{ruled}
use Rattle.group.specs.declared.Group.{Group}
use Rattle.sequences.specs.Lists.{ranked}
use Rattle.matrix.specs.Pieces.{piece_letter}
use Rattle.column_runs.specs.Steps.Runs.{standing, from_next}

-- column u has lost what the later columns put into it and is solved, and all others are as they were
pub record Column (g : Group) (ids : List ℕ) (u : ℕ) (before after : List ℕ) : Type 0 where
  pub same_length : length after ≡ length before
  pub solved :
      (v p : ℕ) → 1 ≤ v → v ≤ min u g.k → 1 ≤ p → p ≤ g.l
      → part xors (min u g.k) (ruled t (ranked ids)) (λ a. standing g after a u) v p
      ≡ bit_xor (standing g before v u p) (from_next g ids before u v (g.d - u) p)
  pub kept : (v x p : ℕ) → 1 ≤ x → x ≤ g.d → (x ≡ u → ⊥) → 1 ≤ v → v ≤ min x g.k → standing g after v x p ≡ standing g before v x p

-- the columns after u are done: they have their pieces, and the others are as they came
pub record Stage (g : Group) (ids : List ℕ) (u : ℕ) (start buffer : List ℕ) : Type 0 where
  pub same_length : length buffer ≡ length start
  pub done :
      (x v p : ℕ) → u < x → x ≤ g.d → 1 ≤ v → v ≤ min x g.k → 1 ≤ p → p ≤ g.l
      → piece_letter xors g buffer ids v x p ≡ standing g start v x p
  pub waiting : (x v p : ℕ) → 1 ≤ x → x ≤ u → 1 ≤ v → v ≤ min x g.k → standing g buffer v x p ≡ standing g start v x p
