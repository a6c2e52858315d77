-- `lengths::repair_buffer` meets its contract: there are at most 15 pieces.
use mathlib.Core.Path.{ap}
use Prim.Native.Nat.{◌*◌}
use native.Mathlib.Nat.{mul-le-mul}
use native.Mathlib.Omega.{arith}
use Rattle.group.specs.Ranges.{most_packets, longest_packet}
use Rattle.lengths.specs.Lengths.{repair_letters, repair_buffer}
use Rattle.lengths.proofs.Sizes.{repair_at_most}
use Rattle.lengths.proofs.known.Member.repair_buffer.Goals as goal

pub overflow_mul-result : goal.overflow_mul-result
overflow_mul-result c =
    let s = c in
    rw c.repair_letters.ensures
    (omega (arith, mul-le-mul {n₁ = s.args.self.g.d} {m₁ = repair_letters s.args.self.g s.args.self.node} {n₂ = most_packets} {m₂ = longest_packet} (omega arith) (repair_at_most s.args.self.g s.args.self.node s.args.self.of)))

pub returns : goal.returns
unfolding repair_buffer
returns c = ap (λ n. c.args.self.g.d * n) c.repair_letters.ensures
