-- `of_file` meets its contract: after every turn one column more is in the sum. The first has no terms.
use mathlib.Core.Path.{◌≡◌, sym, ap, ap₂, ◌∙◌}
use Prim.Native.Nat.{ℕ, ◌+◌}
use native.Mathlib.Omega.{arith}
use Rattle.letters.specs.Algebra.{Adding, counts, sum}
use Rattle.letters.proofs.Sums.{none_plus, sum_more}
use Rattle.file_count.specs.Steps.Terms.{column_terms}
use Rattle.file_count.proofs.ColumnTerms.{first_column, file_count}
use Rattle.file_count.proofs.of_file.Goals as goal

sum_one : {A : Type 0} (𝓐 : Adding A) (f : ℕ → A) → sum 𝓐 1 f ≡ f 1
unfolding sum
sum_one 𝓐 f = none_plus 𝓐 (f 1)

pub loop-u-init : goal.loop-u-init
loop-u-init c =
    let s = c in
    (sym (sum_one counts (λ x. column_terms s.args.senders.now.g s.args.senders.now.ids.now s.args.file.now x) ∙ first_column s.args.senders.now.g s.args.senders.now.ids.now s.args.file.now (omega arith)), omega arith)

pub of_column-count-requires : goal.of_column-count-requires
of_column-count-requires c = (c.requires, omega arith, omega arith)

pub overflow_add-count : goal.overflow_add-count
overflow_add-count c = omega (arith, c.of_column-count.ensures.1)

pub loop-u-preserved : goal.loop-u-preserved
loop-u-preserved c =
    let l = c.loop-u in
    (ap₂ ◌+◌ l.invariant.0 c.of_column-count.ensures.0 ∙ sym (sum_more counts l.u _), omega (arith, c.of_column-count.ensures.1))

pub returns : goal.returns
returns c =
    let l = c.loop-u in
    let a = c.args in
    let done : l.u ≡ a.senders.now.g.d = omega arith in
    l.invariant.0 ∙ ap (λ m. sum counts m (λ x. column_terms a.senders.now.g a.senders.now.ids.now a.file.now x)) done ∙ file_count a.senders.now.g a.senders.now.ids.now a.file.now (omega arith)
