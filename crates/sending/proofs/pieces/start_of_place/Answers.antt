-- `pieces::start_of_place` meets its contract: then 5 of the packets.
use native.Mathlib.Omega.{arith}
use mathlib.Core.Path.{◌∙◌, ap₂, sym}
use Prim.Native.Nat.{◌+◌}
use borrow.Author.Tests.{eq-eqb, ne_eqb}
use Rattle.group.proofs.InRange.{of_node}
use Rattle.group.proofs.Refusals.{refuses, gives}
use Rattle.lengths.proofs.Sizes.{node_at_most, packet_fits}
use Rattle.shifts.proofs.Rule.{at_most}
use Rattle.sending.specs.Calls.{piece_refusal}
use Rattle.sending.proofs.Called.{of_place}
use Rattle.sending.proofs.pieces.start_of_place.Goals as goal

pub returns-then-held-wanted : goal.returns-then-held-wanted
unfolding piece_refusal
returns-then-held-wanted c =
    let s = c in
    refuses _ _ _ (sym (simp (of_node _ _ s.args.of.of, of_place _ _ _ s.requires, ne_eqb _ _ (λ e. c.if-held-wanted.true (e ∙ sym c.letters-wanted.ensures)))))

pub overflow_add-result : goal.overflow_add-result
overflow_add-result c =
    let s = c in
    omega (arith, c.packet_start-start.ensures, c.shift.ensures, at_most s.args.of.node s.args.rank (omega arith) (omega arith), at_most s.args.of.node s.args.column (omega arith) (omega arith), node_at_most s.args.of.g s.args.of.node s.args.of.of, packet_fits s.args.of.g s.args.of.node s.args.of.of s.args.column (omega arith) (omega arith))

pub returns : goal.returns
unfolding piece_refusal
returns c =
    let s = c in
    gives _ _ _ (simp (of_node _ _ s.args.of.of, of_place _ _ _ s.requires, eq-eqb _ _ (c.if-held-wanted.false ∙ c.letters-wanted.ensures)))
    (ap₂ ◌+◌ c.packet_start-start.ensures c.shift.ensures)
