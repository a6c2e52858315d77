-- `pieces::piece_start` meets its contract: refusals 1 to 3 of the node come first.
use Rattle.preview_numbers.proofs.InRange.{preview_node_of}
use Rattle.group.proofs.Refusals.{handed_on, fine, passed_on, refuses}
use Rattle.preview_pieces.specs.Calls.{preview_piece_refusal}
use Rattle.preview_pieces.proofs.pieces.piece_start.Goals as goal

pub invariant_of-start_of_node : goal.invariant_of-start_of_node
invariant_of-start_of_node c = record { of = preview_node_of _ _ (fine _ _ c.in_ok-node.was c.node.ensures) }

pub returns-in_err-node : goal.returns-in_err-node
unfolding preview_piece_refusal
returns-in_err-node c = rw (handed_on c.from_residual.result _ c.from_residual.ensures.1) (refuses _ _ _ (passed_on _ _ _ _ c.in_err-node.was c.node.ensures))
