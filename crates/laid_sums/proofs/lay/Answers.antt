-- What blocks leave over is laid first, as the beginning of a block, and then the blocks.
use Rattle.std.proofs.Common.{refl, arith}
use Rattle.letters.specs.Steps.Rests.{left_over}
use Rattle.sums.proofs.Sums.{inside_fewer}
use Rattle.laid_sums.proofs.lay.Goals as goal

pub lay_blocks-requires : goal.lay_blocks-requires
unfolding left_over
lay_blocks-requires c =
    let same = c.copy.ensures.same_length in
    (inside_fewer _ _ _ _ _ _ (omega arith) (omega arith) c.requires, rw same refl)
