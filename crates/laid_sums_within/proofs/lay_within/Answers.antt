-- What blocks leave over is laid first, and what the blocks then read is as it came.
use Rattle.std.proofs.Common.{refl, arith}
use Rattle.letters.specs.Steps.Rests.{left_over}
use Rattle.sums.proofs.Sums.{laid_within}
use Rattle.laid_sums_within.proofs.lay_within.Goals as goal

pub lay_blocks-requires-clause-start : goal.lay_blocks-requires-clause-start
unfolding left_over
lay_blocks-requires-clause-start c = refl

pub returns : goal.returns
returns c = laid_within _ _ _ _ _ _ _ _ _ c.requires.1 c.block-block.ensures (omega arith) (omega arith) c.copy.ensures c.lay_blocks.ensures
