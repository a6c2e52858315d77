-- After every turn one run more is in the sum.
use Rattle.std.proofs.Common.{sym, arith}
use Rattle.sums.proofs.Sums.{fits_at, sum_at_none, sum_at_more}
use Rattle.sums.proofs.sources.letter.Goals as goal

pub loop-start-init : goal.loop-start-init
loop-start-init c = sym (sum_at_none _ _ _)

pub overflow_add-sum : goal.overflow_add-sum
overflow_add-sum c = omega (arith, fits_at _ _ _ _ c.requires c.loop-start.start-index (omega arith))

pub bounds-from-start : goal.bounds-from-start
bounds-from-start c = omega (arith, fits_at _ _ _ _ c.requires c.loop-start.start-index (omega arith))

pub loop-start-preserved : goal.loop-start-preserved
loop-start-preserved c = rw c.loop-start.invariant (sym (sum_at_more _ _ c.loop-start.start-index _))
