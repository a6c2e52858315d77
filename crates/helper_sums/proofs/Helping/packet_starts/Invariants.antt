-- `packet_starts` meets its contract: after every turn one start more stands in the list, and `start` is the next one.
use mathlib.Core.Path.{◌≡◌}
use Prim.Native.Nat.{ℕ, ◌+◌, ◌<◌}
use lib.ListN.{length, get_or}
use Rattle.lengths.specs.Lengths.{packet_start}
use Rattle.helper_sums.proofs.Helping.packet_starts.Given as goal

abbrev pub invariant-loop-j : goal.invariant-loop-j
invariant-loop-j l = (length l.starts ≡ 16) × (l.start ≡ packet_start l.self.g l.self.helper (l.j + 1)) × ((i : ℕ) → i < l.j → get_or l.starts i 0 ≡ packet_start l.self.g l.self.helper (i + 1))
