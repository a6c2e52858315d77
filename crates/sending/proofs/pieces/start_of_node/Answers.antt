-- `pieces::start_of_node` meets its contract: then 3 of the rank and the column.
use Rattle.group.proofs.InRange.{of_node}
use Rattle.group.proofs.Refusals.{handed_on, fine, passed_on, skipped, refuses}
use Rattle.sending.specs.Calls.{piece_refusal}
use Rattle.sending.proofs.Called.{place_of}
use Rattle.sending.proofs.pieces.start_of_node.Goals as goal

pub start_of_place-requires : goal.start_of_place-requires
start_of_place-requires c =
    let s = c in
    place_of _ _ _ s.args.of.of.group (fine _ _ c.in_ok-check_place.was c.check_place.ensures)

pub returns-in_err-check_place : goal.returns-in_err-check_place
unfolding piece_refusal
returns-in_err-check_place c = rw (handed_on c.from_residual.result _ c.from_residual.ensures.1) (refuses _ _ _ (skipped _ _ _ (of_node _ _ c.args.of.of) (passed_on _ _ _ _ c.in_err-check_place.was c.check_place.ensures)))
