-- When each rank begins.
use Rattle.std.specs.Prelude.{◌≡◌, List, ℕ, ◌-◌, ◌≤◌, length, get_or}
use Rattle.system.specs.Order.{delay}
use Rattle.equation.specs.Rows.{shift_in}

-- The delays of the s ranks, in an array.
pub record Delays (s : ℕ) (rows delays : List ℕ) : Type 0 where
  pub sixteen : length delays ≡ 16
  pub each : (u : ℕ) → 1 ≤ u → u ≤ s → get_or delays (u - 1) 0 ≡ delay (shift_in rows) u
