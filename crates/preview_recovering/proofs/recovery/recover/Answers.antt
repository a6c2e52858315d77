-- `recovery::recover` meets its contract: refusals 1 to 4 come first.
use Rattle.group.proofs.Refusals.{handed_on, fine, passed_on}
use Rattle.preview_recovering.specs.Calls.{preview_recover_refusal}
use Rattle.preview_recovering.proofs.RecoverCalls.{preview_readers_of, preview_recover_refused}
use Rattle.preview_recovering.proofs.recovery.recover.Goals as goal

pub recover_exact-requires : goal.recover_exact-requires
recover_exact-requires c = preview_readers_of _ _ (fine _ _ c.in_ok-check_readers.was c.check_readers.ensures)

pub returns-in_err-check_readers : goal.returns-in_err-check_readers
unfolding preview_recover_refusal
returns-in_err-check_readers c = rw (handed_on c.from_residual.result _ c.from_residual.ensures.1) (preview_recover_refused _ _ _ _ (passed_on _ _ _ _ c.in_err-check_readers.was c.check_readers.ensures))
