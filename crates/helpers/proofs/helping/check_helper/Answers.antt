-- `helping::check_helper` meets its contract: refusals 1 and 2, and 3 of the lost node, come first.
use Rattle.group.proofs.InRange.{node_of}
use Rattle.group.proofs.Refusals.{handed_on, fine, passed_on}
use Rattle.helpers.specs.Calls.{helper_refusal}
use Rattle.helpers.proofs.helping.check_helper.Goals as goal

pub check_other-requires : goal.check_other-requires
check_other-requires c = node_of _ _ (fine _ _ c.in_ok-node.was c.node.ensures)

pub returns-in_err-node : goal.returns-in_err-node
unfolding helper_refusal
returns-in_err-node c = rw (handed_on c.from_residual.result _ c.from_residual.ensures.1) (passed_on _ _ _ _ c.in_err-node.was c.node.ensures)
