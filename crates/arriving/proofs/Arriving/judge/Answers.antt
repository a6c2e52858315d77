-- `judge` meets its contract: where the search stopped tells what the bytes are.
use mathlib.Core.Path.{ap, ◌∙◌}
use Prim.Native.Nat.{◌+◌}
use native.Mathlib.Omega.{arith}
use Rattle.layout.proofs.Judgments.{not_both}
use Rattle.kinds.specs.Kinds.{head_size}
use Rattle.heads.specs.declared.Head.{Head}
use Rattle.heads.specs.Heads.{heads}
use Rattle.heads.proofs.HeadLaws.{total_small}
use Rattle.judging.specs.Steps.Judged.{judgment_at}
use Rattle.arriving.specs.Calls.{JudgesState}
use Rattle.arriving.proofs.Led.{batch_led, known_led, led_known, number_small}
use Rattle.reaching.proofs.Near.{near}
use Rattle.arriving.proofs.Telling.{judged_right}
use Rattle.arriving.proofs.Arriving.judge.Goals as goal

pub returns-then-self-gt-LAST_BATCH : goal.returns-then-self-gt-LAST_BATCH
returns-then-self-gt-LAST_BATCH c = JudgesState.forged (λ led. omega (arith, batch_led _ led))

pub returns-then-not-led : goal.returns-then-not-led
returns-then-not-led c = JudgesState.forged (λ led. not_both _ (c.led.ensures.1 (known_led _ _ c.head_so_far-head.ensures led)) c.if-not-led.true)

pub overflow_add-self : goal.overflow_add-self
overflow_add-self c =
    let w = (c.led.ensures.0 c.if-not-led.false) in
    omega (arith, near _ _ w.numbers, number_small c.args.self (led_known _ _ c.head_so_far-head.ensures w))

pub judged-requires : goal.judged-requires
judged-requires c = omega (arith, c.total-letters.ensures, total_small c.head_so_far-head.result)

pub returns : goal.returns
returns c =
    let s = c.args.self in
    let head = c.head_so_far-head.ensures in
    judged_right s _ (c.total-letters.ensures ∙ ap heads.total head) _
    (c.judged.ensures ∙ ap (λ (h : Head). judgment_at (head_size h.kind) h c.total-letters.result s.at (s.at + s.wrong)) head) (led_known s _ head (c.led.ensures.0 c.if-not-led.false))
