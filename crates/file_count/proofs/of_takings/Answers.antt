-- `of_takings` meets its contract: after every turn one entry more is in the sum.
use mathlib.Core.Path.{◌≡◌, sym, ap, ap₂, ◌∙◌}
use Prim.Native.Nat.{◌+◌}
use native.Mathlib.Omega.{arith}
use Rattle.letters.specs.Algebra.{counts, sum}
use Rattle.letters.proofs.Sums.{sum_more, sum_none_terms}
use Rattle.counting.specs.Steps.Taken.{run_terms}
use Rattle.matrix.specs.Counts.{taking_out}
use Rattle.file_count.proofs.ColumnTerms.{recovery_of, run_as_taken, own_column, earlier_column}
use Rattle.file_count.proofs.of_takings.Goals as goal

pub returns-then-u-v : goal.returns-then-u-v
returns-then-u-v c =
    let a = c.args in
    (sym (own_column a.senders.now.g a.senders.now.ids.now a.run.now.buffer.now a.v a.u (omega arith)), omega arith)

pub loop-w-init : goal.loop-w-init
loop-w-init c = (sym (sum_none_terms counts _), omega arith)

pub of_run-count-requires : goal.of_run-count-requires
of_run-count-requires c =
    let s = c in
    (s.args.senders.now.shifts.size, omega arith, omega arith, omega arith, omega arith)

pub overflow_add-count : goal.overflow_add-count
overflow_add-count c = omega (arith, c.of_run-count.ensures.1)

pub loop-w-preserved : goal.loop-w-preserved
loop-w-preserved c =
    let l = c.loop-w in
    let s = c in
    let a = s.args in (
      ap₂ ◌+◌ l.invariant.0
          (c.of_run-count.ensures.0
          ∙ ap (λ m. run_terms a.run.now.buffer.now a.run.now.start m a.senders.now.rows.now (l.w + 1) a.u) s.requires.run.1
          ∙ run_as_taken a.senders.now.g a.senders.now.ids.now a.senders.now.rows.now a.run.now.buffer.now (recovery_of a.senders.now a.run.now.buffer.now s.requires.run.0) a.v a.u a.run.now.start (omega arith) (omega arith) (omega arith) s.requires.run.2 (l.w + 1) (omega arith) (omega arith))
          ∙ sym (sum_more counts l.w (λ y. taking_out a.senders.now.g a.senders.now.ids.now a.run.now.buffer.now a.u a.v y)),
      omega (arith, c.of_run-count.ensures.1),
    )

pub returns : goal.returns
returns c =
    let l = c.loop-w in
    let a = c.args in
    let done : l.w ≡ a.v = omega arith in (
      l.invariant.0
          ∙ ap (λ m. sum counts m (λ y. taking_out a.senders.now.g a.senders.now.ids.now a.run.now.buffer.now a.u a.v y)) done
          ∙ sym (earlier_column a.senders.now.g a.senders.now.ids.now a.run.now.buffer.now a.v a.u (omega arith)),
      omega arith,
    )
