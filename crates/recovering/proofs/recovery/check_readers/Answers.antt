-- `recovery::check_readers` meets its contract: 1 and 2 come first.
use Rattle.group.proofs.Refusals.{handed_on, passed_on, went_on}
use Rattle.recovering.specs.Calls.{readers_refusal}
use Rattle.recovering.proofs.recovery.check_readers.Goals as goal

pub returns-in_err-group : goal.returns-in_err-group
unfolding readers_refusal
returns-in_err-group c = rw (handed_on c.from_residual.result _ c.from_residual.ensures.1) (passed_on _ _ _ _ c.in_err-group.was c.group.ensures)

pub returns : goal.returns
unfolding readers_refusal
returns c = went_on _ _ _ _ c.in_ok-group.was c.group.ensures c.check.ensures
