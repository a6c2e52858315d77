-- `lengths::node` meets its contract: there are at most 15 packets.
use native.Mathlib.Omega.{arith}
use mathlib.Core.Path.{ap}
use Prim.Native.Nat.{◌*◌}
use native.Mathlib.Nat.{mul-le-mul}
use Rattle.group.specs.Ranges.{most_packets}
use Rattle.lengths.specs.Lengths.{node_letters}
use Rattle.lengths.proofs.known.Member.letters.Goals as goal

pub overflow_mul-result : goal.overflow_mul-result
overflow_mul-result c = omega (arith, mul-le-mul {n₁ = c.args.self.g.d} {n₂ = most_packets} (omega arith) c.widened.ensures.1)

pub returns : goal.returns
unfolding node_letters
returns c = ap (λ w. c.args.self.g.d * w) c.widened.ensures.0
