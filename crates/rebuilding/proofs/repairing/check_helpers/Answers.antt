-- `repairing::check_helpers` meets its contract: 1, 2 and 3 of the lost node come first.
use Rattle.group.proofs.InRange.{node_of}
use Rattle.group.proofs.Refusals.{handed_on, fine, passed_on}
use Rattle.rebuilding.specs.Calls.{helpers_refusal}
use Rattle.rebuilding.proofs.repairing.check_helpers.Goals as goal

pub check_others-requires : goal.check_others-requires
check_others-requires c = node_of _ _ (fine _ _ c.in_ok-node.was c.node.ensures)

pub returns-in_err-node : goal.returns-in_err-node
unfolding helpers_refusal
returns-in_err-node c = rw (handed_on c.from_residual.result _ c.from_residual.ensures.1) (passed_on _ _ _ _ c.in_err-node.was c.node.ensures)
