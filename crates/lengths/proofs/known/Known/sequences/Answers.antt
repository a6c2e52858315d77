-- `Known::sequences` meets its contract: with k and d at most 15 nothing overflows.
use mathlib.Core.Path.{refl}
use Rattle.lengths.specs.Lengths.{sequences}
use Rattle.lengths.proofs.Sizes.{kd_at_most, pairs_below}
use native.Mathlib.Omega.{arith}
use Rattle.lengths.proofs.known.Known.sequences.Goals as goal

pub overflow_mul-result : goal.overflow_mul-result
overflow_mul-result c = omega (arith, kd_at_most c.args.self.g c.args.self.in_range)

pub overflow_mul-result-2 : goal.overflow_mul-result-2
overflow_mul-result-2 c =
    let s = c in
    omega (arith, pairs_below s.args.self.g s.args.self.in_range, kd_at_most s.args.self.g s.args.self.in_range)

pub overflow_sub-result-2 : goal.overflow_sub-result-2
overflow_sub-result-2 c =
    let s = c in
    omega (arith, pairs_below s.args.self.g s.args.self.in_range)

pub returns : goal.returns
unfolding sequences
returns c = refl
