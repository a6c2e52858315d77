-- After i turns it is counted how many of the first i letters are the same.
use Rattle.matching.proofs.HowFar.{CountedSame}
use Rattle.matching.proofs.blocks.equal.Given as goal

abbrev pub invariant-loop-i : goal.invariant-loop-i
invariant-loop-i l = CountedSame l.held l.block l.at l.i l.same
