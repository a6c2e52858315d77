-- A block more, before those that are in, after each turn.
use Rattle.std.proofs.Common.{◌-◌, ◌*◌, sym, arith}
use Rattle.letters.specs.Steps.Rests.{widest_block}
use Rattle.letters.proofs.Laying.{nothing_laid}
use Rattle.letters.proofs.Rests.{all_blocks}
use Rattle.adding_after.proofs.Downward.{block_down, laid_down}
use Rattle.adding_after.proofs.blocks.add_blocks.Goals as goal

pub loop-b-init : goal.loop-b-init
loop-b-init c =
    let all = all_blocks _ 0 (sym c.requires.0) in
    nothing_laid _ _ _ _ (omega arith)

pub loop-b-preserved : goal.loop-b-preserved
loop-b-preserved c =
    let a = c.args in
    let l = c.loop-b in
    let i = (l.b - 1) * widest_block in
    let left = l.b * widest_block in
    let block = block_down _ _ a.to a.from i widest_block left c.requires.1 (omega arith) (omega arith) c.add_block.ensures in
    laid_down a.buffer.now _ _ a.to a.from i left a.count c.requires.1 (omega arith) (omega arith) l.invariant block
