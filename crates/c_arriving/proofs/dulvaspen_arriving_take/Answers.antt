-- `dulvaspen_arriving_take` meets its contract: the state is read, takes the bytes and is put again, its first number alone where the burst is stepped over.
use native.Mathlib.Omega.{arith}
use Rattle.arriving.proofs.PastHead.{steps_near}
use Rattle.c_arriving.specs.Arrivals.{TakesWords}
use Rattle.c_arriving.proofs.Told.{took, took_first}
use Rattle.c_arriving.proofs.dulvaspen_arriving_take.Goals as goal

pub returns-then-state-ne-WORDS : goal.returns-then-state-ne-WORDS
returns-then-state-ne-WORDS c = TakesWords.unfit c.if-state-ne-WORDS.true

pub overflow_add-state : goal.overflow_add-state
overflow_add-state c = omega (arith, steps_near _ _ _ c.stepped_over-start.ensures (omega arith))

pub returns-then-start-bytes : goal.returns-then-start-bytes
returns-then-start-bytes c = took_first _ _ c.if-state-ne-WORDS.false c.state_in-before.ensures _ _ c.stepped_over-start.ensures c.if-start-bytes.true

pub returns : goal.returns
returns c = took _ _ c.if-state-ne-WORDS.false c.state_in-before.ensures _ _ _ c.after_steps.ensures c.put_state.ensures
