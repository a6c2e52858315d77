-- The order in which the letters of a system come out.
use Rattle.std.specs.Prelude.{ℕ, zero, suc, ◌+◌, ◌-◌, ◌≤◌, ◌<◌}
use Rattle.shifts.specs.Rule.{ShiftRule}

-- How many rounds after the first rank the rank u comes out: none for rank 1, then t(u,u) - t(u,u-1) more for each rank.
unfoldable pub delay : (ℕ → ℕ → ℕ) → ℕ → ℕ
delay t zero = 0
delay t (suc zero) = 0
delay t (suc (suc u)) = delay t (suc u) + (t (suc (suc u)) (suc (suc u)) - t (suc (suc u)) (suc u))

-- Each of the s equations takes, apart from its own letter, only letters that come out earlier: from a lower rank no later round's, from a higher rank an earlier round's.
pub record Ordered (s : ℕ) (t : ℕ → ℕ → ℕ) : Type 0 where
  pub from_lower : (a b : ℕ) → 1 ≤ a → a < b → b ≤ s → t b b + delay t a ≤ t b a + delay t b
  pub from-higher : (a b : ℕ) → 1 ≤ b → b < a → a ≤ s → t b b + delay t a < t b a + delay t b

-- The ids of s nodes, by rank: they count from 1 and fall.
pub record Falling (s : ℕ) (id : ℕ → ℕ) : Type 0 where
  pub from_one : (a : ℕ) → 1 ≤ a → a ≤ s → 1 ≤ id a
  pub falls : (a b : ℕ) → 1 ≤ a → a < b → b ≤ s → id b < id a

-- The shifts of the nodes of these ids under a rule, by rank and column.
abbrev pub ruled : ShiftRule → (ℕ → ℕ) → ℕ → ℕ → ℕ
ruled rule id b a = rule (id b) a
