-- What whole steps leave over is in first, and then the steps.
use Rattle.std.proofs.Common.{refl, arith}
use Rattle.dividing.proofs.Running.{over_steps}
use Rattle.dividing.proofs.by_steps.Goals as goal

pub sum_steps-requires : goal.sum_steps-requires
sum_steps-requires c = (over_steps _ _ refl, omega arith, omega (arith, c.sum_rests.ensures.same_length))
