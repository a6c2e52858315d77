-- `encoding::encode_exact` meets its contract: both lengths are right, or the refusal is passed on.
use mathlib.Core.Path.{refl, ◌∙◌}
use Rattle.group.proofs.Refusals.{handed_on, exact_lengths, stopped, fine}
use Rattle.group.proofs.Called.{call_refused, call_fine, lengths_after}
use Rattle.preview_numbers.proofs.InRange.{of_preview_node}
use Rattle.preview_packets.specs.Calls.{preview_encode_refusal}
use Rattle.preview_packets.proofs.encoding.encode_exact.Goals as goal

pub encode_packet-requires : goal.encode_packet-requires
encode_packet-requires c =
    let s = c in
    let w = exact_lengths _ _ _ _ (fine _ _ c.in_ok-lengths.was c.lengths.ensures) in
    (w.0 ∙ c.file-wanted.ensures, w.1 ∙ c.packet-size.ensures)

pub returns-in_err-lengths : goal.returns-in_err-lengths
unfolding preview_encode_refusal
returns-in_err-lengths c =
    rw (handed_on c.from_residual.result _ c.from_residual.ensures.1) (let s = c in
    call_refused _ _ _ _ _ (stopped _ _ _ c.in_err-lengths.was (c.lengths.ensures ∙ lengths_after _ _ _ _ _ _ _ (of_preview_node _ _ s.args.of.of) c.file-wanted.ensures c.packet-size.ensures)))

pub returns : goal.returns
unfolding preview_encode_refusal
returns c =
    let s = c in
    call_fine _ _ _ _ _ _ (fine _ _ c.in_ok-lengths.was (c.lengths.ensures ∙ lengths_after _ _ _ _ _ _ _ (of_preview_node _ _ s.args.of.of) c.file-wanted.ensures c.packet-size.ensures)) refl c.encode_packet.ensures
