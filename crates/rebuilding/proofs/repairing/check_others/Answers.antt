-- `repairing::check_others` meets its contract: 3 and 4 of the ids come first, then 4 of the lost node among them.
use Rattle.group.proofs.InRange.{of_node}
use Rattle.group.proofs.Refusals.{handed_on, passed_on, went_on, skipped}
use Rattle.rebuilding.specs.Calls.{helpers_refusal}
use Rattle.rebuilding.proofs.repairing.check_others.Goals as goal

pub returns-in_err-check : goal.returns-in_err-check
unfolding helpers_refusal
returns-in_err-check c = rw (handed_on c.from_residual.result _ c.from_residual.ensures.1) (skipped _ _ _ (of_node _ _ c.requires) (passed_on _ _ _ _ c.in_err-check.was c.check.ensures))

pub returns : goal.returns
unfolding helpers_refusal
returns c = skipped _ _ _ (of_node _ _ c.requires) (went_on _ _ _ _ c.in_ok-check.was c.check.ensures c.check_apart.ensures)
