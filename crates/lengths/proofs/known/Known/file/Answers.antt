-- `Known::file` meets its contract: B is at most 225.
use mathlib.Core.Path.{ap}
use Prim.Native.Nat.{◌*◌}
use Rattle.lengths.specs.Lengths.{file_letters}
use Rattle.lengths.proofs.Sizes.{file_at_most}
use native.Mathlib.Omega.{arith}
use Rattle.lengths.proofs.known.Known.file.Goals as goal

pub overflow_mul-result : goal.overflow_mul-result
unfolding file_letters
overflow_mul-result c =
    let s = c in
    rw c.sequences.ensures (omega (arith, file_at_most s.args.self.g s.args.self.in_range))

pub returns : goal.returns
unfolding file_letters
returns c = ap (λ b. b * c.args.self.g.l) c.sequences.ensures
