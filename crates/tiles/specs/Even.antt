-- Rows of shifts that are products, and how many rounds back an equation reads.
use Rattle.std.specs.Prelude.{◌≡◌, ℕ, ◌+◌, ◌-◌, ◌*◌, ◌≤◌, ◌<◌}
use Rattle.system.specs.Order.{delay}

-- The row of rank b goes up by its exponent e b from each column to the next, and starts at 0.
pub record Even (s : ℕ) (t : ℕ → ℕ → ℕ) (e : ℕ → ℕ) : Type 0 where
  pub products : (b a : ℕ) → 1 ≤ b → b ≤ s → 1 ≤ a → a ≤ s → t b a ≡ e b * (a - 1)

-- How many rounds before its own round an equation of rank b reads sequence a.
unfoldable pub lag : (ℕ → ℕ → ℕ) → ℕ → ℕ → ℕ
lag t b a = (t b a + delay t b) - (t b b + delay t a)

-- All that the turns of a tile use of the lags and exponents of its ranks, those after `below` and up to `hi`.
pub record Lags (below hi : ℕ) (lag : ℕ → ℕ → ℕ) (e : ℕ → ℕ) : Type 0 where
  pub own : (b : ℕ) → below < b → b ≤ hi → lag b b ≡ 0
  pub next :
      (j b a : ℕ) → below < j → j ≤ b → b ≤ hi → j ≤ a → a < hi
      → lag b a + (e j - e (a + 1)) ≡ lag b (a + 1) + (e j - e b)
