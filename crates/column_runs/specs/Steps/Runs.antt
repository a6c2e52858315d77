-- What the later columns put into an entry of the collector's buffer, and what an entry is left with.
use Rattle.std.specs.Prelude.{◌≡◌, List, ℕ, ◌+◌, ◌-◌, ◌≤◌, ◌<◌, min, length}
use Rattle.std.specs.Int.Bits.{bit_xor}
use Rattle.letters.specs.Algebra.{xors, sum}
use Rattle.shifts.specs.Rule.{t}
use Rattle.system.specs.System.{sequence}
use Rattle.group.specs.declared.Group.{Group}
use Rattle.sequences.specs.Lists.{ranked}
use Rattle.sequences.specs.Steps.Rows.{RowsOf}
use Rattle.matrix.specs.Matrix.{matrix, entry_number}
use Rattle.matrix.specs.Pieces.{Chosen}

-- letter p of entry (v,u) as it stands in the collector's buffer
abbrev pub standing : Group → List ℕ → ℕ → ℕ → ℕ → ℕ
standing g buffer v u p = sequence 0 buffer g.l (entry_number g.k v u) p

-- how far column u is moved to the right in the piece of rank w
abbrev pub moved_by : List ℕ → ℕ → ℕ → ℕ
moved_by ids w u = t (ranked ids w) u - t (ranked ids w) w

-- where the piece of rank w reads column u
abbrev pub seen_at : List ℕ → ℕ → ℕ → ℕ → ℕ
seen_at ids w u p = (p + t (ranked ids w) w) - t (ranked ids w) u

-- what column u puts at place p of entry (w,v)
abbrev pub from_column : Group → List ℕ → List ℕ → ℕ → ℕ → ℕ → ℕ → ℕ
from_column g ids buffer v w u p = matrix xors g buffer v u (seen_at ids w u p)

-- what the next m columns after v put there
abbrev pub from_next : Group → List ℕ → List ℕ → ℕ → ℕ → ℕ → ℕ → ℕ
from_next g ids buffer v w m p = sum xors m (λ j. from_column g ids buffer v w (v + j) p)

-- an entry (w,v) into which later columns put something, and the rows of the chosen nodes' shifts
pub record Entry (g : Group) (ids rows : List ℕ) (v w : ℕ) : Type 0 where
  pub chosen : Chosen g g.k ids
  pub shifts : RowsOf t ids rows
  pub row : 1 ≤ w
  pub upper : w ≤ v
  pub low : v ≤ g.k

-- the letters at places from + 1 .. to of entry (w,v) have these added to them, and all others are as they were
pub record Grown (g : Group) (v w from to : ℕ) (more : ℕ → ℕ) (before after : List ℕ) : Type 0 where
  pub same_length : length after ≡ length before
  pub here : (p : ℕ) → from < p → p ≤ to → standing g after w v p ≡ bit_xor (standing g before w v p) (more p)
  pub aside : (p : ℕ) → (from < p → to < p) → standing g after w v p ≡ standing g before w v p
  pub there :
      (y x p : ℕ) → 1 ≤ x → x ≤ g.d → 1 ≤ y → y ≤ min x g.k → (x ≡ v → y ≡ w → ⊥) → standing g after y x p ≡ standing g before y x p
