-- `of_solving` meets its contract: after every turn one sequence more is in the sum, which is the same terms in another order.
use mathlib.Core.Path.{◌≡◌, sym, ap, ap₂, ◌∙◌}
use Prim.Native.Nat.{◌+◌, ◌-◌, ◌*◌}
use native.Mathlib.Omega.{arith}
use Rattle.letters.specs.Algebra.{counts, sum}
use Rattle.letters.proofs.Sums.{sum_more, sum_none_terms}
use Rattle.counting.specs.Steps.Taken.{others_terms}
use Rattle.counting.proofs.Taken.{by_sequences}
use Rattle.counting.proofs.of_solving.Goals as goal

pub loop-a-init : goal.loop-a-init
loop-a-init c = (sym (sum_none_terms counts _), omega arith)

pub loop-a-preserved : goal.loop-a-preserved
loop-a-preserved c =
    let l = c.loop-a in
    let a = c.args in
    let here : l.a + 1 - 1 ≡ l.a = omega arith in (
      ap₂ ◌+◌ l.invariant.0 (c.of_sequence-count.ensures.0 ∙ sym (ap (λ m. others_terms a.part.now (m * a.n) a.n a.rows.now a.s (l.a + 1)) here))
          ∙ sym (sum_more counts l.a _),
      omega arith,
    )

pub returns : goal.returns
returns c =
    let l = c.loop-a in
    let a = c.args in
    let done : l.a ≡ a.s = omega arith in
    l.invariant.0
    ∙ ap (λ m. sum counts m (λ b. others_terms a.part.now ((b - 1) * a.n) a.n a.rows.now a.s b)) done
    ∙ by_sequences a.s a.n a.rows.now a.part.now
