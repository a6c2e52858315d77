-- `pieces::entry` meets its contract: the entry is a free one, or the refusal is passed on.
use Rattle.group.proofs.Refusals.{handed_on, stopped, fine, refuses, gives}
use Rattle.sending.proofs.Called.{entry_of_lem}
use Rattle.sending.proofs.pieces.entry.Goals as goal

pub free_start-requires : goal.free_start-requires
free_start-requires c = entry_of_lem _ _ _ (fine _ _ c.in_ok-check_entry.was c.check_entry.ensures)

pub returns-in_err-check_entry : goal.returns-in_err-check_entry
returns-in_err-check_entry c = rw (handed_on c.from_residual.result _ c.from_residual.ensures.1) (refuses _ _ _ (stopped _ _ _ c.in_err-check_entry.was c.check_entry.ensures))

pub returns : goal.returns
returns c = gives _ _ _ (fine _ _ c.in_ok-check_entry.was c.check_entry.ensures) c.free_start.ensures.0
