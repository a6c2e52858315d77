-- `in_head` meets its contract: nothing is taken in a state to which no bytes lead or after a wrong byte, and else the search tells how far it goes.
use mathlib.Core.Path.{sym, ap, subst, ◌∙◌}
use native.Mathlib.Omega.{arith}
use lib.ListN.{take}
use lib.Seq.{length-take-le}
use Rattle.layout.proofs.Judgments.{not_both}
use Rattle.heads.specs.Steps.Partly.{head_after}
use Rattle.arriving.specs.Calls.{Takes}
use Rattle.arriving.proofs.Led.{batch_led, known_numbers}
use Rattle.reaching.proofs.Near.{near}
use Rattle.arriving.proofs.Taking.{forged_stays, wrong_stays, takes_all, takes_some}
use Rattle.arriving.proofs.Arriving.in_head.Goals as goal

pub returns-then-not-reached : goal.returns-then-not-reached
returns-then-not-reached c = forged_stays _ _ (λ led. not_both _ (c.reached.ensures.1 led) c.if-not-reached.true)

pub returns-then-self-gt0 : goal.returns-then-self-gt0
returns-then-self-gt0 c = wrong_stays _ _ (c.reached.ensures.0 c.if-not-reached.false) (λ none. omega arith)

pub head_so_far-head-requires : goal.head_so_far-head-requires
head_so_far-head-requires c = batch_led _ (c.reached.ensures.0 c.if-not-reached.false)

pub invariant_of-begun : goal.invariant_of-begun
invariant_of-begun c = record { numbers = known_numbers _ _ c.head_so_far-head.ensures (c.reached.ensures.0 c.if-not-reached.false) }

pub first_wrong-good-requires : goal.first_wrong-good-requires
first_wrong-good-requires c = (near _ _ (known_numbers c.args.self _ c.head_so_far-head.ensures (c.reached.ensures.0 c.if-not-reached.false)), c.total.ensures)

pub overflow_add-end : goal.overflow_add-end
overflow_add-end c = omega (arith, near _ _ (known_numbers c.args.self _ c.head_so_far-head.ensures (c.reached.ensures.0 c.if-not-reached.false)), c.first_wrong-good.ensures.within)

pub returns-then-good-bytes : goal.returns-then-good-bytes
returns-then-good-bytes c =
    let s = c.args in
    subst (Takes s.self s.bytes.now) (sym c.state_with.ensures)
    (takes_all s.self s.bytes.now (c.reached.ensures.0 c.if-not-reached.false) (omega arith) _ _
    (c.head_with-with.ensures ∙ ap (λ h. head_after h s.self.at s.bytes.now) c.head_so_far-head.ensures)
    c.first_wrong-good.ensures c.if-good-bytes.true)

pub slice_bounds-head_with-end : goal.slice_bounds-head_with-end
slice_bounds-head_with-end c = sym (length-take-le _ _ c.first_wrong-good.ensures.within)

pub returns : goal.returns
returns c =
    let s = c.args in
    let w = c.first_wrong-good in
    subst (Takes s.self s.bytes.now) (sym c.wrong_at.ensures)
    (takes_some s.self s.bytes.now (c.reached.ensures.0 c.if-not-reached.false) (omega arith) _ _
    (c.head_with-with.ensures ∙ ap (λ h. head_after h s.self.at s.bytes.now) c.head_so_far-head.ensures)
    w.ensures (omega (arith, w.ensures.within, c.if-good-bytes.false)) _
    (c.head_with-before.ensures ∙ ap (λ h. head_after h s.self.at (take w.result s.bytes.now)) c.head_so_far-head.ensures))
