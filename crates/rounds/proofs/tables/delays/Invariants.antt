-- `tables::delays` meets its contract: after every turn one delay more is there.
use mathlib.Core.Path.{◌≡◌}
use Prim.Native.Nat.{ℕ, ◌+◌, ◌*◌, ◌≤◌, ◌<◌}
use lib.ListN.{length, get_or}
use Rattle.one_turn.specs.Tables.{even_shift}
use Rattle.system.specs.Order.{delay}
use Rattle.rounds.proofs.tables.delays.Given as goal

abbrev pub invariant-loop-b : goal.invariant-loop-b
invariant-loop-b l = (length l.delays ≡ 16) × ((i : ℕ) → i < l.b → get_or l.delays i 0 ≡ delay (even_shift l.exps) (i + 1)) × ((i : ℕ) → i < l.b → get_or l.delays i 0 ≤ 65535 * i)
