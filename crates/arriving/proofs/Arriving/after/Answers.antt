-- `after` meets its contract: bytes that are all stepped over change but how many stand.
use native.Mathlib.Omega.{arith}
use Rattle.arriving.proofs.PastHead.{steps_near, all_steps}
use Rattle.arriving.proofs.Arriving.after.Goals as goal

pub overflow_add-next : goal.overflow_add-next
overflow_add-next c = omega (arith, steps_near _ _ _ c.stepped_over-start.ensures (omega arith))

pub returns-then-start-bytes : goal.returns-then-start-bytes
returns-then-start-bytes c = all_steps _ _ _ c.stepped_over-start.ensures c.if-start-bytes.true
