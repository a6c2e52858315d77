-- Where a column's entries start.
use Rattle.std.specs.Prelude.{◌≡◌, List, ℕ, ◌+◌, ◌<◌, length, get_or}
use Rattle.group.specs.declared.Group.{Group}
use Rattle.matrix.specs.Matrix.{entry_start}

-- the index at which entry (v,u) starts, for v = 1..d
pub record StartsOf (g : Group) (u : ℕ) (starts : List ℕ) : Type 0 where
  pub size : length starts ≡ 16
  pub rows : (i : ℕ) → i < g.d → get_or starts i 0 ≡ entry_start g (i + 1) u
