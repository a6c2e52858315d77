-- The shifts of a system's equations as the code has them: rows of sixteen, and when they can be solved.
use Rattle.std.specs.Prelude.{◌≡◌, List, ℕ, ◌+◌, ◌-◌, ◌*◌, ◌^◌, ◌≤◌, length, get_or}
use Rattle.system.specs.Order.{Ordered}
use Rattle.tiles.specs.Even.{Even}

-- The shift of the node of rank b at column a, in a matrix of rows of sixteen.
unfoldable pub shift_in : List ℕ → ℕ → ℕ → ℕ
shift_in rows b a = get_or rows ((b - 1) * 16 + (a - 1)) 0

-- The rows of s nodes: sixteen rows of sixteen, whose first s hold small shifts.
pub record Rows (s : ℕ) (rows : List ℕ) : Type 0 where
  pub some_nodes : 1 ≤ s
  pub few-nodes : s ≤ 16
  pub sixteen_rows : length rows ≡ 256
  pub small : (b a : ℕ) → 1 ≤ b → b ≤ s → 1 ≤ a → a ≤ s → shift_in rows b a ≤ 65535

-- What the solver must be handed beside s sequences of n letters: rows whose shifts give an order, and each of which goes up by the same number from column to column.
pub record Solvable (s n : ℕ) (rows : List ℕ) : Type 0 where
  pub some_letters : 1 ≤ n
  pub few_letters : n ≤ 2 ^ 32
  pub shifts : Rows s rows
  pub ordered : Ordered s (shift_in rows)
  pub even : Even s (shift_in rows) (λ b. shift_in rows b 2)
