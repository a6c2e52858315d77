-- `reached` meets its contract: bytes lead to a state exactly if they lead to its numbers.
use native.Mathlib.Omega.{arith}
use Rattle.heads.proofs.Answers.{refuted}
use Rattle.arriving.proofs.Led.{batch_led, known_led, led_known}
use Rattle.arriving.proofs.Arriving.reached.Goals as goal

pub returns-then-self-gt-LAST_BATCH : goal.returns-then-self-gt-LAST_BATCH
returns-then-self-gt-LAST_BATCH c = refuted (λ led. omega (arith, batch_led _ led))

pub returns : goal.returns
returns c =
    let s = c.args.self in
    let head = c.head_so_far-head.ensures in
    (λ yes. led_known s _ head (c.led.ensures.0 yes), λ leads. c.led.ensures.1 (known_led s _ head leads))
