-- `tables::starts` meets its contract: after every turn one start more is there.
use mathlib.Core.Path.{◌≡◌}
use Prim.Native.Nat.{ℕ, ◌+◌, ◌-◌, ◌*◌, ◌≤◌, ◌<◌}
use lib.ListN.{length, get_or}
use Rattle.rounds.proofs.tables.starts.Given as goal

abbrev pub invariant-loop-b : goal.invariant-loop-b
invariant-loop-b l = (length l.starts ≡ 16) × ((i : ℕ) → i < l.b → l.below ≤ i → get_or l.starts i 0 ≡ i * l.n + (l.done - get_or l.delays i 0))
