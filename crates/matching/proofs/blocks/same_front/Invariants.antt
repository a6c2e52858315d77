-- All letters of the blocks passed are the same.
use Rattle.std.proofs.Common.{◌*◌, length}
use Rattle.letters.specs.Steps.Rests.{widest_block}
use Rattle.sums.specs.Sums.{sum_at}
use Rattle.matching.specs.Same.{SameTo}
use Rattle.matching.proofs.blocks.same_front.Given as goal

abbrev pub invariant-loop-b : goal.invariant-loop-b
invariant-loop-b l = SameTo l.held (sum_at l.from l.starts (length l.starts)) (l.b * widest_block)
