-- After every turn, what sums the run at the stride that is left sums it as it came at the stride w.
use Rattle.std.proofs.Common.{◌+◌, ◌-◌, length, arith, ◌∙◌}
use Rattle.letters.proofs.Laying.{laid_until}
use Rattle.dividing.proofs.Running.{summed_doubled}
use Rattle.dividing.proofs.widened.Goals as goal

pub loop-wide-preserved : goal.loop-wide-preserved
loop-wide-preserved c =
    let l = c.loop-wide in
    let end = length c.args.run.now in
    let laid = laid_until _ _ _ (l.wide + (end - l.wide)) end _ (omega arith) c.add_after.ensures in
    (omega arith, c.add_after.ensures.same_length ∙ l.invariant.1, λ zs s. l.invariant.2 zs (summed_doubled l.run _ zs l.wide end (omega arith) laid s (omega arith)))
