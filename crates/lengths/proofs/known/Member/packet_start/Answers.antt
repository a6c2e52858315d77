-- `lengths::packet_start` meets its contract: there are at most 15 packets.
use native.Mathlib.Omega.{arith}
use mathlib.Core.Path.{ap, sym, ◌∙◌}
use Prim.Native.Nat.{◌-◌, ◌*◌}
use native.Mathlib.Nat.{mul-le-mul}
use Rattle.lengths.proofs.Sizes.{packet_start_lem}
use Rattle.group.specs.Ranges.{most_packets}
use Rattle.lengths.proofs.known.Member.packet_start.Goals as goal

pub overflow_mul-result : goal.overflow_mul-result
overflow_mul-result c = omega (arith, mul-le-mul {n₁ = c.args.column - 1} {n₂ = most_packets} (omega arith) c.widened.ensures.1)

pub returns : goal.returns
returns c = ap (λ w. (c.args.column - 1) * w) c.widened.ensures.0 ∙ sym (packet_start_lem _ _ _)
