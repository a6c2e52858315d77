-- `of_column` meets its contract: after every turn one entry more is in the sum.
use mathlib.Core.Path.{◌≡◌, sym, ap, ap₂, ◌∙◌}
use Prim.Native.Nat.{◌+◌, min}
use native.Mathlib.Omega.{arith}
use Rattle.letters.specs.Algebra.{counts, sum}
use Rattle.letters.proofs.Sums.{sum_more, sum_none_terms}
use Rattle.file_count.specs.Steps.Terms.{solving_terms, taking_terms, column_terms}
use Rattle.file_count.proofs.of_column.Goals as goal

pub loop-v-init : goal.loop-v-init
loop-v-init c = (sym (sum_none_terms counts _), omega arith)

pub of_entry-count-requires : goal.of_entry-count-requires
of_entry-count-requires c =
    let s = c in
    (s.requires.0, omega arith, omega arith, c.min-s.ensures, omega arith, omega arith)

pub overflow_add-count : goal.overflow_add-count
overflow_add-count c = omega (arith, c.of_entry-count.ensures.few, c.min-s.ensures)

pub loop-v-preserved : goal.loop-v-preserved
loop-v-preserved c =
    let l = c.loop-v in
    (ap₂ ◌+◌ l.invariant.0 c.of_entry-count.ensures.terms ∙ sym (sum_more counts l.v _), omega (arith, c.of_entry-count.ensures.few))

pub returns : goal.returns
unfolding column_terms
returns c =
    let l = c.loop-v in
    let a = c.args in
    let few = c.min-s.ensures in
    let done : l.v ≡ min a.u a.senders.now.g.k = omega (arith, few) in
    (l.invariant.0 ∙ ap (λ m. sum counts m (λ y. solving_terms a.senders.now.g a.senders.now.ids.now a.file.now a.u y + taking_terms a.senders.now.g a.senders.now.ids.now a.file.now a.u y)) done, omega (arith, few))
