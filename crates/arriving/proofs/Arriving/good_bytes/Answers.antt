-- `good_bytes` meets its contract: the state counts the bytes that can stand.
use Rattle.layout.proofs.Judgments.{not_both}
use Rattle.arriving.specs.Calls.{GoodBytesOf}
use Rattle.arriving.proofs.Telling.{state_stands}
use Rattle.arriving.proofs.Arriving.good_bytes.Goals as goal

pub returns-then-reached : goal.returns-then-reached
returns-then-reached c = state_stands _ (c.reached.ensures.0 c.if-reached.true)

pub returns : goal.returns
returns c = GoodBytesOf.forged (λ led. not_both _ (c.reached.ensures.1 led) c.if-reached.false)
