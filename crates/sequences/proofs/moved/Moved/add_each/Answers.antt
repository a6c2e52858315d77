-- `moved::Moved::add_each` meets its contract: after every turn one run more is in the sum.
use native.Mathlib.Omega.{arith}
use Rattle.sums.proofs.Sums.{fits_at}
use Rattle.sequences.proofs.Summing.{summed_none, summed_more}
use Rattle.sequences.proofs.MovedRuns.{run_seen}
use Rattle.sequences.proofs.moved.Moved.add_each.Goals as goal

pub loop-u-init : goal.loop-u-init
loop-u-init c = summed_none _ _ _ _ c.clear.ensures.zeros

pub overflow_add-end : goal.overflow_add-end
overflow_add-end c = omega (arith, fits_at _ _ _ _ c.args.self.now.runs.inside c.loop-u.u (omega arith))

pub slice_bounds-add_seen-end : goal.slice_bounds-add_seen-end
slice_bounds-add_seen-end c = omega (arith, fits_at _ _ _ _ c.args.self.now.runs.inside c.loop-u.u (omega arith))

pub loop-u-preserved : goal.loop-u-preserved
loop-u-preserved c =
    let l = c.loop-u in
    summed_more l.u _ _ _ _ _ l.invariant (run_seen _ _ _ _ _ _ l.u _ _ c.args.self.now.runs (omega arith) c.add_seen.ensures)
