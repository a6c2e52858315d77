-- `pieces::piece_start` meets its contract: refusals 1 to 3 of the node come first.
use Rattle.group.proofs.InRange.{node_of}
use Rattle.group.proofs.Refusals.{handed_on, fine, passed_on, refuses}
use Rattle.sending.specs.Calls.{piece_refusal}
use Rattle.sending.proofs.pieces.piece_start.Goals as goal

pub invariant_of-start_of_node : goal.invariant_of-start_of_node
invariant_of-start_of_node c = record { of = node_of _ _ (fine _ _ c.in_ok-node.was c.node.ensures) }

pub returns-in_err-node : goal.returns-in_err-node
unfolding piece_refusal
returns-in_err-node c = rw (handed_on c.from_residual.result _ c.from_residual.ensures.1) (refuses _ _ _ (passed_on _ _ _ _ c.in_err-node.was c.node.ensures))
