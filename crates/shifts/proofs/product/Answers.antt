-- `product` meets its contract: it is the rule, and with numbers as small as these nothing overflows.
use mathlib.Core.Path.{refl}
use native.Mathlib.Omega.{arith}
use Rattle.shifts.specs.Rule.{t}
use Rattle.shifts.proofs.Rule.{one_node_more}
use Rattle.shifts.proofs.product.Goals as goal

pub overflow_mul-result : goal.overflow_mul-result
unfolding t
overflow_mul-result c = omega (arith, one_node_more c.args.node c.args.column (omega (arith, c.requires)) (omega (arith, c.requires)))

pub returns : goal.returns
unfolding t
returns c = (refl, one_node_more c.args.node c.args.column (omega (arith, c.requires)) (omega (arith, c.requires)))
