-- `laying::sequence_starts` meets its contract: after u turns the first u starts stand in the array, and `start` is where the next sequence starts.
use mathlib.Core.Path.{◌≡◌}
use Prim.Native.Nat.{ℕ, ◌*◌, ◌<◌}
use lib.ListN.{length, get_or}
use Rattle.preview_packets.proofs.laying.sequence_starts.Given as goal

abbrev pub invariant-loop-u : goal.invariant-loop-u
invariant-loop-u l = (length l.starts ≡ 16) × (l.start ≡ l.u * l.g.l) × ((v : ℕ) → v < l.u → get_or l.starts v 0 ≡ v * l.g.l)
