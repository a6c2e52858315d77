-- A block goes in where there is one.
use Rattle.std.proofs.Common.{◌+◌, sym, ◌∙◌, arith, add-zero}
use Rattle.letters.proofs.Rests.{no_block, one_block, block_fits, in_run}
use Rattle.dividing.proofs.Running.{summed_block}
use Rattle.dividing.proofs.sum_rest.Goals as goal

pub returns-then-count-width-clause-count : goal.returns-then-count-width-clause-count
returns-then-count-width-clause-count c = (omega arith, sym (add-zero c.args.i) ∙ no_block _ _ c.args.i c.requires.lengths.0 (omega arith))

pub overflow_add-w : goal.overflow_add-w
overflow_add-w c = omega (arith, in_run _ _ _ c.requires.lengths.0)

pub add_block-requires : goal.add_block-requires
add_block-requires c =
    let fits = block_fits c.args.count c.args.width c.args.i (omega arith) c.requires.lengths.0 (omega arith) in
    (omega arith, omega arith, omega arith)

pub overflow_add-result : goal.overflow_add-result
overflow_add-result c = omega (arith, block_fits c.args.count c.args.width c.args.i (omega arith) c.requires.lengths.0 (omega arith))

pub returns-clause-letters : goal.returns-clause-letters
returns-clause-letters c =
    let a = c.args in
    let fits = block_fits a.count a.width a.i (omega arith) c.requires.lengths.0 (omega arith) in
    summed_block a.run.now _ (a.w + a.i) a.i a.width (a.w + (a.i + a.width)) a.w (omega arith) (omega arith) (omega arith) (omega arith) c.add_block.ensures

pub returns-clause-count : goal.returns-clause-count
returns-clause-count c = (omega arith, one_block _ _ _ (omega arith) c.requires.lengths.0 (omega arith))
