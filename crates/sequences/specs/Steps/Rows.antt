-- The shifts of some nodes as the solver wants them: rows of sixteen.
use Rattle.std.specs.Prelude.{◌≡◌, List, ℕ, ◌+◌, ◌*◌, ◌/◌, ◌%◌, ◌≤◌, ◌<◌, length, get_or}
use Rattle.shifts.specs.Rule.{ShiftRule}

-- at most sixteen ids, each one of 1..16
pub record Known (ids : List ℕ) : Type 0 where
  pub few : length ids ≤ 16
  pub low : (q : ℕ) → q < length ids → 1 ≤ get_or ids q 0
  pub high : (q : ℕ) → q < length ids → get_or ids q 0 ≤ 16

-- a row of sixteen shifts, under a rule, for each of the ids
pub record RowsOf (rule : ShiftRule) (ids rows : List ℕ) : Type 0 where
  pub size : length rows ≡ 256
  pub shifts : (j : ℕ) → j < length ids * 16 → get_or rows j 0 ≡ rule (get_or ids (j / 16) 0) (j % 16 + 1)

-- the sixteen shifts of one node under a rule
pub record RowOf (rule : ShiftRule) (node : ℕ) (row : List ℕ) : Type 0 where
  pub size : length row ≡ 16
  pub shifts : (j : ℕ) → j < 16 → get_or row j 0 ≡ rule node (j + 1)
