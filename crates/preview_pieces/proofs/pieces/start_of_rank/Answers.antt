-- `pieces::start_of_rank` meets its contract: then 5 of the packet.
use mathlib.Core.Path.{◌∙◌, sym}
use borrow.Author.Tests.{eq-eqb, ne_eqb}
use Rattle.group.proofs.Refusals.{refuses, gives}
use Rattle.preview_numbers.proofs.InRange.{of_preview_node}
use Rattle.preview_pieces.specs.Calls.{preview_piece_refusal}
use Rattle.preview_pieces.proofs.Called.{of_rank}
use Rattle.preview_pieces.proofs.pieces.start_of_rank.Goals as goal

pub returns-then-held-wanted : goal.returns-then-held-wanted
unfolding preview_piece_refusal
returns-then-held-wanted c =
    let s = c in
    refuses _ _ _ (sym (simp (of_preview_node _ _ s.args.of.of, of_rank s.args.of.g _ s.requires.0 s.requires.1, ne_eqb _ _ (λ e. c.if-held-wanted.true (e ∙ sym c.packet-wanted.ensures)))))

pub returns : goal.returns
unfolding preview_piece_refusal
returns c =
    let s = c in
    gives _ _ _ (simp (of_preview_node _ _ s.args.of.of, of_rank s.args.of.g _ s.requires.0 s.requires.1, eq-eqb _ _ (c.if-held-wanted.false ∙ c.packet-wanted.ensures)))
    c.preview_shift.ensures.0
