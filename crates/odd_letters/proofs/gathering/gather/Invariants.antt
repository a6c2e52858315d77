-- `gathering::gather` is safe: no more nodes are gathered than there is room for, and their letters end within the packets.
use Prim.Native.Nat.{◌+◌}
use Rattle.std.proofs.Common.{◌≡◌, ◌≤◌, length}
use Rattle.odd_letters.proofs.gathering.gather.Given as goal

abbrev pub invariant-loop-node : goal.invariant-loop-node
invariant-loop-node g l = (l.nodes ≤ length l.ids) × (length l.packets ≡ length l.initial.packets) × (l.end ≤ length l.packets)
