-- What it leaves in the collector's buffer to take what the later columns put into a column out of it.
use Rattle.std.specs.Prelude.{◌≡◌, List, ℕ, ◌-◌, ◌≤◌, ◌<◌, min, length}
use Rattle.std.specs.Int.Bits.{bit_xor}
use Rattle.group.specs.declared.Group.{Group}
use Rattle.lengths.specs.Lengths.{file_letters}
use Rattle.matrix.specs.Pieces.{Chosen}
use Rattle.column_runs.specs.Steps.Runs.{standing, from_next}

-- a buffer of B*L letters from k chosen nodes
pub record Collected (g : Group) (ids buffer : List ℕ) : Type 0 where
  pub chosen : Chosen g g.k ids
  pub long : length buffer ≡ file_letters g

-- the first m entries of column v have lost what the later columns put into them, and all others are as they were
pub record Pulled (g : Group) (ids : List ℕ) (v m : ℕ) (before after : List ℕ) : Type 0 where
  pub same_length : length after ≡ length before
  pub here :
      (w p : ℕ) → 1 ≤ w → w ≤ m → 1 ≤ p → p ≤ g.l
      → standing g after w v p ≡ bit_xor (standing g before w v p) (from_next g ids before v w (g.d - v) p)
  pub there :
      (y x p : ℕ) → 1 ≤ x → x ≤ g.d → 1 ≤ y → y ≤ min x g.k → (x ≡ v → m < y) → standing g after y x p ≡ standing g before y x p
