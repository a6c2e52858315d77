-- `moved::seen_starts` meets its contract: after u turns the first u runs are done.
use mathlib.Core.Path.{◌≡◌}
use Prim.Native.Nat.{ℕ, ◌+◌, ◌-◌, ◌<◌}
use lib.ListN.{length, get_or}
use Rattle.sequences.proofs.moved.seen_starts.Given as goal

abbrev pub invariant-loop-u : goal.invariant-loop-u
invariant-loop-u l = (length l.seen ≡ 16) × ((i : ℕ) → i < l.u → get_or l.seen i 0 ≡ get_or l.starts i 0 + (l.skip - get_or l.leads i 0))
