-- A block goes in where there is one.
use Rattle.std.proofs.Common.{◌-◌, arith}
use Rattle.adding_after.proofs.Downward.{block_down, still_none, block_there, none_then}
use Rattle.adding_after.proofs.blocks.add_rest.Goals as goal

pub returns-then-left-width-clause-left : goal.returns-then-left-width-clause-left
returns-then-left-width-clause-left c = (omega arith, still_none _ _ c.requires.lengths.0 (omega arith))

pub returns-clause-letters : goal.returns-clause-letters
returns-clause-letters c =
    let a = c.args in
    let there = block_there a.left a.width (omega arith) c.requires.lengths.0 (omega arith) in
    block_down a.buffer.now _ a.to a.from (a.left - a.width) a.width a.left (omega arith) (omega arith) (omega arith) c.add_block.ensures

pub returns-clause-left : goal.returns-clause-left
returns-clause-left c = (omega arith, none_then _ _ (omega arith) c.requires.lengths.0 (omega arith))
