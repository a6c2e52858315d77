-- `helping::help` meets its contract: refusals 1 to 4 come first.
use Rattle.group.proofs.Refusals.{handed_on, fine, passed_on}
use Rattle.helpers.specs.Calls.{help_refusal}
use Rattle.group.proofs.Called.{call_refused}
use Rattle.helpers.proofs.HelpCalls.{helper_of}
use Rattle.helpers.proofs.helping.help.Goals as goal

pub help_exact-requires : goal.help_exact-requires
help_exact-requires c = helper_of _ _ _ _ (fine _ _ c.in_ok-check_helper.was c.check_helper.ensures)

pub returns-in_err-check_helper : goal.returns-in_err-check_helper
unfolding help_refusal
returns-in_err-check_helper c = rw (handed_on c.from_residual.result _ c.from_residual.ensures.1) (call_refused _ _ _ _ _ (passed_on _ _ _ _ c.in_err-check_helper.was c.check_helper.ensures))
