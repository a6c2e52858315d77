-- `repairing::repair_exact` meets its contract: the solver has the whole buffer.
use native.Mathlib.Omega.{arith}
use mathlib.Core.Path.{sym, ap, ◌∙◌}
use Prim.Native.Nat.{ℕ, ◌*◌, ◌≤◌}
use borrow.Author.Tests.{eq-eqb, ne_eqb}
use Rattle.group.specs.declared.Group.{Group}
use Rattle.group.specs.Ranges.{longest_packet, NodeOf}
use Rattle.lengths.specs.Lengths.{repair_letters}
use Rattle.rebuilding.specs.Calls.{repair_refusal}
use Rattle.sequences.proofs.Charted.{solvable}
use Rattle.matrix.proofs.ChosenRanks.{known, ranks}
use Rattle.matrix.proofs.Rebuilt.{same_buffer}
use Rattle.rebuilding.proofs.RepairCalls.{repair_refused, repair_fine}
use Rattle.lengths.proofs.Sizes.{repair_at_most}
use Rattle.rebuilding.proofs.repairing.repair_exact.Goals as goal

-- a repair piece has some letters, and not too many
bounds : (g : Group) (lost : ℕ) → NodeOf g lost → (1 ≤ repair_letters g lost) × (repair_letters g lost ≤ longest_packet)
unfolding repair_letters
bounds g lost r = (omega arith, repair_at_most g lost r)

pub invariant_of-lost_one : goal.invariant_of-lost_one
invariant_of-lost_one c = record { of = c.requires.node }

pub returns-then-buffer-wanted : goal.returns-then-buffer-wanted
unfolding repair_refusal
returns-then-buffer-wanted c =
    let s = c in
    repair_refused _ _ _ _ _ (sym (simp (s.requires.fine, ne_eqb _ _ (λ e. c.if-buffer-wanted.true (e ∙ sym c.repair_buffer-wanted.ensures)))))

pub of-rows-requires : goal.of-rows-requires
of-rows-requires c =
    let s = c in
    known _ _ _ s.requires.chosen (omega arith)

pub solve_counted-requires : goal.solve_counted-requires
solve_counted-requires c =
    let s = c in record {
      system = solvable _ _ _ c.of-rows.ensures _ (ranks _ _ _ s.requires.chosen (omega arith)) _ (omega arith) (omega arith) _
          (omega (arith, c.repair_letters-n.ensures, bounds s.args.g s.args.lost s.requires.node)) (omega (arith, c.repair_letters-n.ensures, bounds s.args.g s.args.lost s.requires.node));
      letters = c.if-buffer-wanted.false ∙ c.repair_buffer-wanted.ensures ∙ same_buffer _ _ ∙ ap (λ m. s.args.g.d * m) (sym c.repair_letters-n.ensures);
    }

pub returns : goal.returns
unfolding repair_refusal
returns c =
    let s = c in
    let long = c.if-buffer-wanted.false ∙ c.repair_buffer-wanted.ensures in
    repair_fine _ _ _ _ _ _ _ _ s.requires long (simp (s.requires.fine, eq-eqb _ _ long)) c.repair_letters-n.ensures c.of-rows.ensures c.solve_counted.ensures
