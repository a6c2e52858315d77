-- `encoding::encode_exact` meets its contract: both lengths are right, or the refusal is passed on.
use native.Mathlib.Omega.{arith}
use mathlib.Core.Path.{refl, ◌∙◌}
use Rattle.group.proofs.InRange.{of_node}
use Rattle.group.proofs.Refusals.{handed_on, exact_lengths, stopped, fine}
use Rattle.lengths.proofs.Sizes.{node_at_most}
use Rattle.nodes.specs.Calls.{encode_refusal}
use Rattle.group.proofs.Called.{call_refused, call_fine, lengths_after}
use Rattle.matrix.proofs.Product.{wide_packet, wide_node}
use Rattle.nodes.proofs.encoding.encode_exact.Goals as goal

pub overflow_mul-g : goal.overflow_mul-g
overflow_mul-g c =
    let s = c in
    omega (arith, node_at_most s.args.of.g s.args.of.node s.args.of.of, wide_node s.args.of.g s.args.of.node _ c.widened_in-size.ensures.0)

pub encode_packets-requires : goal.encode_packets-requires
encode_packets-requires c =
    let s = c in
    let w = exact_lengths _ _ _ _ (fine _ _ c.in_ok-lengths.was c.lengths.ensures) in
    w.1 ∙ wide_node s.args.of.g s.args.of.node _ c.widened_in-size.ensures.0

pub invariant_of-encoding : goal.invariant_of-encoding
invariant_of-encoding c =
    let s = c in
    let w = exact_lengths _ _ _ _ (fine _ _ c.in_ok-lengths.was c.lengths.ensures) in
    record { shifts = c.all-table.ensures; known = s.args.of.of; sized = wide_packet s.args.of.g s.args.of.node _ c.widened_in-size.ensures.0; whole = w.0 ∙ c.file-wanted_file.ensures }

pub returns-in_err-lengths : goal.returns-in_err-lengths
unfolding encode_refusal
returns-in_err-lengths c =
    rw (handed_on c.from_residual.result _ c.from_residual.ensures.1) (let s = c in
    call_refused _ _ _ _ _ (stopped _ _ _ c.in_err-lengths.was (c.lengths.ensures ∙ lengths_after _ _ _ _ _ _ _ (of_node _ _ s.args.of.of) c.file-wanted_file.ensures (wide_node s.args.of.g s.args.of.node _ c.widened_in-size.ensures.0))))

pub returns : goal.returns
unfolding encode_refusal
returns c =
    let s = c in
    call_fine _ _ _ _ _ _ (fine _ _ c.in_ok-lengths.was (c.lengths.ensures ∙ lengths_after _ _ _ _ _ _ _ (of_node _ _ s.args.of.of) c.file-wanted_file.ensures (wide_node s.args.of.g s.args.of.node _ c.widened_in-size.ensures.0))) refl c.encode_packets.ensures
