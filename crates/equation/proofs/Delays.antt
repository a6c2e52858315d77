-- Delays of small shifts are small, and where each stands in an array of them.
use mathlib.Core.List.{List}
use Prim.Native.Nat.{ℕ, zero, suc, ◌*◌, ◌≤◌}
use native.Mathlib.Omega.{arith}
use Rattle.system.specs.Order.{delay}
use Rattle.equation.specs.Rows.{shift_in, Rows}

-- at most 65535 rounds for each rank
pub delay_small : (s : ℕ) (rows : List ℕ) → Rows s rows → (u : ℕ) → u ≤ s → delay (shift_in rows) u ≤ 65535 * u
unfolding delay
delay_small s rows r zero h = omega arith
delay_small s rows r (suc zero) h = omega arith
delay_small s rows r (suc (suc u)) h =
    omega
    (arith, delay_small s rows r (suc u) (omega arith), r.small (suc (suc u)) (suc (suc u)) (omega arith) h (omega arith) h)
