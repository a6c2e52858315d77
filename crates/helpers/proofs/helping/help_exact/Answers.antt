-- `helping::help_exact` meets its contract: both lengths are right, or the refusal is passed on.
use native.Mathlib.Omega.{arith}
use mathlib.Core.Path.{refl, ◌∙◌}
use Rattle.lengths.specs.Lengths.{repair_letters}
use Rattle.group.proofs.Refusals.{handed_on, exact_lengths, stopped, fine}
use Rattle.lengths.proofs.Sizes.{node_at_most}
use Rattle.helpers.specs.Calls.{help_refusal}
use Rattle.group.proofs.Called.{call_refused, call_fine, lengths_after}
use Rattle.helpers.proofs.HelpCalls.{of_helper}
use Rattle.matrix.proofs.Product.{wide_packet, wide_node}
use Rattle.helpers.proofs.helping.help_exact.Goals as goal

pub overflow_mul-g : goal.overflow_mul-g
overflow_mul-g c =
    let s = c in
    omega (arith, node_at_most s.args.g s.args.helper s.requires.other, wide_node s.args.g s.args.helper _ c.widened_in-size.ensures.0)

pub invariant_of-helping : goal.invariant_of-helping
invariant_of-helping c =
    let s = c in
    let w = exact_lengths _ _ _ _ (fine _ _ c.in_ok-lengths.was c.lengths.ensures) in
    record { shifts = c.all-table.ensures; nodes = s.requires; sized = wide_packet s.args.g s.args.helper _ c.widened_in-size.ensures.0; held = w.0 ∙ wide_node s.args.g s.args.helper _ c.widened_in-size.ensures.0 }

pub sum_packets-requires : goal.sum_packets-requires
unfolding repair_letters
sum_packets-requires c = (exact_lengths _ _ _ _ (fine _ _ c.in_ok-lengths.was c.lengths.ensures)).1 ∙ c.widened_in-wanted.ensures.0

pub returns-in_err-lengths : goal.returns-in_err-lengths
unfolding help_refusal repair_letters
returns-in_err-lengths c =
    rw (handed_on c.from_residual.result _ c.from_residual.ensures.1) (let s = c in
    call_refused _ _ _ _ _ (stopped _ _ _ c.in_err-lengths.was (c.lengths.ensures ∙ lengths_after _ _ _ _ _ _ _ (of_helper _ _ _ _ s.requires) (wide_node s.args.g s.args.helper _ c.widened_in-size.ensures.0) c.widened_in-wanted.ensures.0)))

pub returns : goal.returns
unfolding help_refusal repair_letters
returns c =
    let s = c in
    call_fine _ _ _ _ _ _ (fine _ _ c.in_ok-lengths.was (c.lengths.ensures ∙ lengths_after _ _ _ _ _ _ _ (of_helper _ _ _ _ s.requires) (wide_node s.args.g s.args.helper _ c.widened_in-size.ensures.0) c.widened_in-wanted.ensures.0)) refl c.sum_packets.ensures
