-- All letters before index i are the same.
use Rattle.std.proofs.Common.{get_or}
use Rattle.matching.specs.Same.{SameTo}
use Rattle.matching.proofs.one_by_one.same_as.Given as goal

abbrev pub invariant-loop-i : goal.invariant-loop-i
invariant-loop-i l = SameTo l.held (λ q. get_or l.right q 0) l.i
