-- `recover_column` meets its contract: the later columns are taken out of the column, which is then one part of the buffer that the solver has.
use native.Mathlib.Omega.{arith}
use mathlib.Core.Path.{sym, ap, subst, ◌∙◌}
use Prim.Native.Nat.{◌+◌, ◌*◌}
use native.Mathlib.Nat.{mul-le-mul}
use Rattle.equation.specs.Rows.{Solvable}
use Rattle.sequences.proofs.Charted.{solvable}
use Rattle.matrix.proofs.ChosenRanks.{ranks}
use Rattle.solved_columns.proofs.SolveColumn.{column_fits, lent_size, lent_length, solved_as, column_done}
use Rattle.group.specs.Ranges.{longest}
use Rattle.columns.specs.Steps.Columns.{Collected}
use Rattle.solved_columns.proofs.recover_column.Goals as goal

pub overflow_mul-start : goal.overflow_mul-start
overflow_mul-start c =
    let s = c in
    omega (arith, mul-le-mul {n₁ = c.sequences_before.result} {m₁ = s.args.senders.now.g.l} {n₂ = 360} {m₂ = longest} (omega arith) (omega arith))

pub overflow_mul-end : goal.overflow_mul-end
overflow_mul-end c =
    let s = c in
    omega (arith, mul-le-mul {n₁ = c.sequences_before.result} {m₁ = s.args.senders.now.g.l} {n₂ = 360} {m₂ = longest} (omega arith) (omega arith), mul-le-mul {n₁ = c.min-s.result} {m₁ = s.args.senders.now.g.l} {n₂ = 16} {m₂ = longest} (omega (arith, c.min-s.ensures)) (omega arith))

pub overflow_add-end : goal.overflow_add-end
overflow_add-end c =
    let s = c in
    omega (arith, mul-le-mul {n₁ = c.sequences_before.result} {m₁ = s.args.senders.now.g.l} {n₂ = 360} {m₂ = longest} (omega arith) (omega arith), mul-le-mul {n₁ = c.min-s.result} {m₁ = s.args.senders.now.g.l} {n₂ = 16} {m₂ = longest} (omega (arith, c.min-s.ensures)) (omega arith))

pub slice_bounds-solve-end : goal.slice_bounds-solve-end
slice_bounds-solve-end c =
    let s = c in
    let q = c.pull_column in
    let collected : Collected s.args.senders.now.g s.args.senders.now.ids.now q.new.buffer = record { chosen = s.args.senders.now.chosen; long = q.ensures.same_length ∙ s.requires.0 } in
    omega (arith, column_fits s.args.senders.now.g s.args.senders.now.ids.now q.new.buffer collected s.args.u (omega arith) (omega arith), (ap (λ m. m * s.args.senders.now.g.l) c.sequences_before.ensures.0), (ap (λ m. c.sequences_before.result * s.args.senders.now.g.l + m * s.args.senders.now.g.l) c.min-s.ensures))

pub solve-requires : goal.solve-requires
solve-requires c =
    let s = c in
    let q = c.pull_column in
    let collected : Collected s.args.senders.now.g s.args.senders.now.ids.now q.new.buffer = record { chosen = s.args.senders.now.chosen; long = q.ensures.same_length ∙ s.requires.0 } in record {
      system = subst (λ m. Solvable m s.args.senders.now.g.l s.args.senders.now.rows.now) (sym c.min-s.ensures)
          (solvable _ _ _ s.args.senders.now.shifts _ (ranks _ _ _ s.args.senders.now.chosen (omega arith)) _ (omega arith) (omega arith) s.args.senders.now.g.l (omega arith) (omega arith));
      letters = lent_length s.args.senders.now.g s.args.senders.now.ids.now q.new.buffer collected s.args.u (omega arith) (omega arith) _ _ (ap (λ m. m * s.args.senders.now.g.l) c.sequences_before.ensures.0) (ap (λ m. c.sequences_before.result * s.args.senders.now.g.l + m * s.args.senders.now.g.l) c.min-s.ensures) ∙ ap (λ m. m * s.args.senders.now.g.l) (sym c.min-s.ensures);
    }

pub returns : goal.returns
returns c =
    let s = c in
    let q = c.pull_column in
    let collected : Collected s.args.senders.now.g s.args.senders.now.ids.now q.new.buffer = record { chosen = s.args.senders.now.chosen; long = q.ensures.same_length ∙ s.requires.0 } in
    let v = c.solve in
    column_done s.args.senders.now.g s.args.senders.now.ids.now q.new.buffer collected s.args.u (omega arith) (omega arith) _ _ (ap (λ m. m * s.args.senders.now.g.l) c.sequences_before.ensures.0) (ap (λ m. c.sequences_before.result * s.args.senders.now.g.l + m * s.args.senders.now.g.l) c.min-s.ensures) v.new.part (v.ensures.same_length ∙ lent_size s.args.senders.now.g s.args.senders.now.ids.now q.new.buffer collected s.args.u (omega arith) (omega arith) _ _ (ap (λ m. m * s.args.senders.now.g.l) c.sequences_before.ensures.0) (ap (λ m. c.sequences_before.result * s.args.senders.now.g.l + m * s.args.senders.now.g.l) c.min-s.ensures)) s.args.senders.now.rows.now _ s.args.senders.now.shifts
    q.ensures
    (solved_as _ _ _ _ _ _ c.min-s.ensures v.ensures)
