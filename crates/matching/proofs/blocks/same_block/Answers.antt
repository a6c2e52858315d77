-- A block of the sum whose letters are all there.
use Rattle.matching.proofs.HowFar.{block_same}
use Rattle.matching.proofs.blocks.same_block.Goals as goal

pub returns : goal.returns
returns c told = block_same _ _ _ _ _ _ c.requires.1 c.block-block.ensures (c.equal.ensures told)
