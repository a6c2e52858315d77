-- Shift rules, and the property that makes them decodable.
use Rattle.std.specs.Prelude.{◌≡◌, ℕ, ◌+◌, ◌-◌, ◌*◌, ◌≤◌, ◌<◌}

-- A shift rule gives the shift of node i and column j, both counted from 1.
abbrev pub ShiftRule : Type 0
ShiftRule = ℕ → ℕ → ℕ

-- The rule of document 01 (docs/SCHEME.md, 2): t(i,j) = (i-1)(j-1).
unfoldable pub t : ShiftRule
t i j = (i - 1) * (j - 1)

-- The rule of previews, document 02's Ask 4 (docs/SCHEME.md, 17): t(i,j) = i(j-1).
unfoldable pub preview_shift : ShiftRule
preview_shift i j = i * (j - 1)

-- Refined increasing differences, (4) of paper [000] (docs/SCHEME.md, 15): for i < i' and j < j',
--     0 <= t(i,j') - t(i,j) < t(i',j') - t(i',j),
-- where the first is an equality only at node 1. The differences are written as sums, since these are natural numbers.
pub record Refined (t : ShiftRule) : Type 0 where
  pub rising : (i j j' : ℕ) → 1 ≤ i → 1 ≤ j → j < j' → t i j ≤ t i j'
  pub growing : (i i' j j' : ℕ) → 1 ≤ i → i < i' → 1 ≤ j → j < j' → t i j' + t i' j < t i' j' + t i j
  pub equal_only_at_one : (i j j' : ℕ) → 1 ≤ i → 1 ≤ j → j < j' → t i j ≡ t i j' → i ≡ 1
