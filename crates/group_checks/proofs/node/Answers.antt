-- `node` meets its contract.
use Rattle.group.proofs.Refusals.{handed_on, passed_on, went_on}
use Rattle.group.specs.Ranges.{node_refusal}
use Rattle.group_checks.proofs.node.Goals as goal

pub returns-in_err-group : goal.returns-in_err-group
unfolding node_refusal
returns-in_err-group c = rw (handed_on c.from_residual.result _ c.from_residual.ensures.1) (passed_on _ _ _ _ c.in_err-group.was c.group.ensures)

pub returns : goal.returns
unfolding node_refusal
returns c = went_on _ _ _ _ c.in_ok-group.was c.group.ensures c.id.ensures
