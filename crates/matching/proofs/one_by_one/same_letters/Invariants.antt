-- All letters before index i are the same.
use Rattle.std.proofs.Common.{length}
use Rattle.sums.specs.Sums.{sum_at}
use Rattle.matching.specs.Same.{SameTo}
use Rattle.matching.proofs.one_by_one.same_letters.Given as goal

abbrev pub invariant-loop-i : goal.invariant-loop-i
invariant-loop-i l = SameTo l.held (sum_at l.from l.starts (length l.starts)) l.i
