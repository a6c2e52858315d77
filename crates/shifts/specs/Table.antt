-- What it means that a list is the table of shifts, and the test of it that the checker computes over the whole table.
use Rattle.std.specs.Prelude.{◌≡◌, Bool, true, false, cond, List, [], ◌∷◌, ℕ, suc, ◌+◌, ◌-◌, ◌*◌, ◌/◌, ◌%◌, ◌≤◌, eqb, length, get_or}
use Rattle.shifts.specs.Rule.{t}

-- a row of sixteen columns for each of sixteen nodes, with the node's shift at the column in its place
pub record Table (xs : List ℕ) : Type 0 where
  pub size : length xs ≡ 256
  pub shifts : (i j : ℕ) → 1 ≤ i → i ≤ 16 → 1 ≤ j → j ≤ 16 → get_or xs ((i - 1) * 16 + (j - 1)) 0 ≡ t i j

-- the test: from index k on, each entry is the product that its row and column give
unfoldable pub products_from : ℕ → List ℕ → Bool
unfolding t
products_from k [] = true
products_from k (x ∷ xs) = cond (eqb x (t (k / 16 + 1) (k % 16 + 1))) (products_from (suc k) xs) false

-- and there are 256 of them
unfoldable pub is_table : List ℕ → Bool
unfolding products_from
is_table xs = cond (eqb (length xs) 256) (products_from 0 xs) false
