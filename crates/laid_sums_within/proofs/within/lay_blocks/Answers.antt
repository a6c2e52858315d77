-- After every turn one block more of the sum is laid; the runs that it is taken from are as they came from there on.
use Rattle.std.proofs.Common.{◌+◌, ◌*◌, arith}
use Rattle.letters.specs.Steps.Rests.{widest_block}
use Rattle.letters.proofs.Laying.{laid_on, laid_until}
use Rattle.letters.proofs.Rests.{all_blocks}
use Rattle.sums.proofs.Sums.{inside_fewer, ends_inside, block_laid, sum_within}
use Rattle.laid_sums_within.proofs.within.lay_blocks.Goals as goal

pub overflow_add-at : goal.overflow_add-at
overflow_add-at c = omega (arith, all_blocks _ _ c.requires.start)

pub block-block-requires : goal.block-block-requires
block-block-requires c =
    let all = all_blocks _ _ c.requires.start in
    inside_fewer _ _ _ _ _ _ (omega arith) (omega (arith, c.loop-b.invariant.same_length)) c.requires.runs.0

pub overflow_add-to : goal.overflow_add-to
overflow_add-to c = omega (arith, all_blocks _ _ c.requires.start, ends_inside _ _ _ _ _ c.requires.runs.0 c.requires.runs.1)

pub copy-requires : goal.copy-requires
copy-requires c =
    let all = all_blocks _ _ c.requires.start in
    (omega (arith, c.block-block.ensures.long), omega (arith, ends_inside _ _ _ _ _ c.requires.runs.0 c.requires.runs.1, c.loop-b.invariant.same_length))

pub loop-b-preserved : goal.loop-b-preserved
loop-b-preserved c =
    let l = c.loop-b in
    let at = c.args.start + l.b * widest_block in
    laid_on _ _ _ _ (c.args.to + at) _ _ (omega arith) (omega arith) l.invariant
    (block_laid _ _ _ at _ _ _ _ _ _ c.block-block.ensures (omega arith) (laid_until _ _ _ (c.args.to + at + widest_block) _ _ (omega arith) c.copy.ensures) (λ p lo hi. sum_within _ _ _ _ _ _ at p _ c.requires.runs.1 l.invariant lo))

pub returns : goal.returns
returns c =
    let all = all_blocks _ _ c.requires.start in
    laid_until _ _ _ (c.args.to + (c.args.start + c.loop-b.b * widest_block)) _ _ (omega arith) c.loop-b.invariant
