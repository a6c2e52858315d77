-- A block's zeros are counted where there is one.
use Rattle.std.proofs.Common.{◌%◌, length, refl, sym, arith}
use Rattle.letters.proofs.Rests.{in_run, block_fits}
use Rattle.worth.specs.Steps.Zeros.{Zeros}
use Rattle.worth.proofs.Counted.{leftover, rest_none, rest_more, lent, few}
use Rattle.worth.proofs.zeros.in_rest.Goals.{After-in_few}
use Rattle.worth.proofs.zeros.in_rest.Goals as goal

pub returns-then-count-width : goal.returns-then-count-width
returns-then-count-width c = rest_none _ (length c.args.letters.now) c.args.width _ (omega arith) c.requires.zeros

-- the block's zeros, where it stands
block : (c : After-in_few) → Zeros c.args.letters.now (length c.args.letters.now % c.args.width) c.args.width c.in_few.result
block c = lent _ (length c.args.letters.now % c.args.width) c.args.width _ _ refl (block_fits _ c.args.width _ (omega arith) (sym (leftover _ c.args.width)) (omega arith)) c.in_few.ensures

pub overflow_add-result : goal.overflow_add-result
overflow_add-result c =
    omega (arith, few _ _ _ c.requires.zeros, c.in_few.ensures.all, in_run (length c.args.letters.now) c.args.width _ refl)

pub returns : goal.returns
returns c = rest_more _ (length c.args.letters.now) c.args.width _ _ (omega arith) (omega arith) c.requires.zeros (block (goal.at.returns c).After-in_few)
