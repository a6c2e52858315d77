-- `lengths::widened_in` meets its contract: no shift is above 225.
use Rattle.lengths.proofs.Sizes.{shift_at_most}
use mathlib.Core.Path.{ap}
use Prim.Native.Nat.{◌+◌}
use native.Mathlib.Omega.{arith}
use Rattle.lengths.proofs.known.Member.widened_in.Goals as goal

pub overflow_add-result : goal.overflow_add-result
overflow_add-result c =
    let s = c in
    omega (arith, shift_at_most s.args.self.g s.args.self.node s.args.self.of)

pub returns : goal.returns
returns c =
    let s = c in
    (ap (λ x. s.args.self.g.l + x) c.shift_in.ensures, omega (arith, shift_at_most s.args.self.g s.args.self.node s.args.self.of))
