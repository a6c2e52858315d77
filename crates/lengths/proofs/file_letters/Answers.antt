-- `group::file_letters` meets its contract: a refusal is passed on, and where there is none the group is in range.
use Rattle.group.proofs.InRange.{in_range}
use Rattle.group.proofs.Refusals.{handed_on, stopped, fine, refuses, gives}
use Rattle.lengths.proofs.file_letters.Goals as goal

pub invariant_of-file : goal.invariant_of-file
invariant_of-file c = record { in_range = in_range _ (fine _ _ c.in_ok-group.was c.group.ensures) }

pub returns-in_err-group : goal.returns-in_err-group
returns-in_err-group c = rw (handed_on c.from_residual.result _ c.from_residual.ensures.1) (refuses _ _ _ (stopped _ _ _ c.in_err-group.was c.group.ensures))

pub returns : goal.returns
returns c = gives _ _ _ (fine _ _ c.in_ok-group.was c.group.ensures) c.file.ensures
