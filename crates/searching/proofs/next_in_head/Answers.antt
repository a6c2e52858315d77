-- `next_in_head` meets its contract: to the end where the batch is all that is left, and else one byte on.
use mathlib.Core.Path.{refl}
use mathlib.Core.Logic.{inl, inr}
use native.Mathlib.Omega.{arith}
use Rattle.searching.proofs.next_in_head.Goals as goal

pub returns-then-offset-lt6 : goal.returns-then-offset-lt6
returns-then-offset-lt6 c = (omega arith, omega arith, inr refl)

pub returns-then-front-offset : goal.returns-then-front-offset
returns-then-front-offset c = (omega arith, omega arith, inl c.if-front-offset.true)

pub returns : goal.returns
returns c = (omega arith, omega arith, inr refl)
