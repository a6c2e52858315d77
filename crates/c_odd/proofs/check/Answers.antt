-- `check` meets its contract: the call's own refusals come first.
use Rattle.group.proofs.Refusals.{handed_on, passed_on, went_on}
use Rattle.c_odd.specs.Odd.{told_refusal}
use Rattle.c_odd.proofs.check.Goals as goal

pub returns-in_err-check : goal.returns-in_err-check
unfolding told_refusal
returns-in_err-check c = rw (handed_on c.from_residual.result _ c.from_residual.ensures.1) (passed_on _ _ _ _ c.in_err-check.was c.check.ensures)

pub returns : goal.returns
unfolding told_refusal
returns c = went_on _ _ _ _ c.in_ok-check.was c.check.ensures c.exact.ensures
