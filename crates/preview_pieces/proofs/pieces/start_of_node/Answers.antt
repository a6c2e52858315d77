-- `pieces::start_of_node` meets its contract: then 3 of the rank.
use Rattle.preview_numbers.proofs.InRange.{of_preview_node}
use Rattle.group.proofs.Refusals.{handed_on, fine, passed_on, skipped, refuses}
use Rattle.preview_pieces.specs.Calls.{rank_refusal, preview_piece_refusal}
use Rattle.preview_pieces.proofs.Called.{rank_of}
use Rattle.preview_pieces.proofs.pieces.start_of_node.Goals as goal

pub start_of_rank-requires : goal.start_of_rank-requires
unfolding rank_refusal
start_of_rank-requires c =
    let s = c in
    let w = rank_of s.args.of.g _ (fine _ _ c.in_ok-one_of.was c.one_of.ensures) in
    (w.0, w.1)

pub returns-in_err-one_of : goal.returns-in_err-one_of
unfolding preview_piece_refusal rank_refusal
returns-in_err-one_of c = rw (handed_on c.from_residual.result _ c.from_residual.ensures.1) (refuses _ _ _ (skipped _ _ _ (of_preview_node _ _ c.args.of.of) (passed_on _ _ _ _ c.in_err-one_of.was c.one_of.ensures)))
