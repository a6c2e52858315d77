-- `first_wrong_behind` meets its contract: every byte passed stands, looked at or stepped over, and the byte at which the loops are
-- left by their label doesn't, since the offset in its record tells its test.
use Prim.Native.Nat.{◌-◌, ◌≤◌}
use lib.ListN.{length}
use Rattle.searching.proofs.Walk.{InRecord, SoFar}
use Rattle.searching.proofs.first_wrong_behind.Given as goal

abbrev pub invariant-loop-at : goal.invariant-loop-at
invariant-loop-at l = InRecord l.front l.base (length l.bytes) l.nth l.start l.offset l.end l.at × SoFar l.base l.head l.bytes l.at

abbrev pub decreases-loop-at : goal.decreases-loop-at
decreases-loop-at l = l.end - l.at

abbrev pub invariant-records : goal.invariant-records
invariant-records l = (l.at ≤ length l.bytes) × SoFar l.base l.head l.bytes l.at

abbrev pub decreases-records : goal.decreases-records
decreases-records l = length l.bytes - l.at
