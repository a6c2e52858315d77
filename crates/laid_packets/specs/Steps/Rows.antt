-- The rows of a column that have letters.
use Rattle.std.specs.Prelude.{ℕ, ◌≤◌, ◌<◌, min}
use Rattle.group.specs.declared.Group.{Group}

-- the first r rows of column u are free or mirrored entries, and the others in the zero corner
pub record RowsUsed (g : Group) (u r : ℕ) : Type 0 where
  pub some : 1 ≤ r
  pub within : r ≤ g.d
  pub upper : (v : ℕ) → v ≤ r → min v u ≤ g.k
  pub corner-row : (v : ℕ) → r < v → v ≤ g.d → g.k < v
  pub corner_column : (v : ℕ) → r < v → v ≤ g.d → g.k < u
