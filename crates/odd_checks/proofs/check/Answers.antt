-- `check` meets its contract: refusals 1 to 4 come first.
use Rattle.group.proofs.Refusals.{handed_on, fine, passed_on, went_on}
use Rattle.odd_checks.specs.Refusals.{odd_refusal}
use Rattle.odd_checks.proofs.check.Goals as goal

pub lengths_of-requires : goal.lengths_of-requires
lengths_of-requires c = fine _ _ c.in_ok-ids_of.was c.ids_of.ensures

pub returns-in_err-ids_of : goal.returns-in_err-ids_of
unfolding odd_refusal
returns-in_err-ids_of c = rw (handed_on c.from_residual.result _ c.from_residual.ensures.1) (passed_on _ _ _ _ c.in_err-ids_of.was c.ids_of.ensures)

pub returns : goal.returns
unfolding odd_refusal
returns c = went_on _ _ _ _ c.in_ok-ids_of.was c.ids_of.ensures c.lengths_of.ensures
