-- After every step the first i letters are in.
use Rattle.std.proofs.Common.{refl, sym, arith}
use Rattle.adding_after.proofs.Downward.{none_odd}
use Rattle.dividing.proofs.Running.{summed_then, summed_as, all_over}
use Rattle.dividing.proofs.sum_rests.Goals as goal

pub sum_rest-i-requires-clause-lengths : goal.sum_rest-i-requires-clause-lengths
sum_rest-i-requires-clause-lengths c = (sym (none_odd _), omega arith, omega arith)

pub returns : goal.returns
returns c =
    let a = c.args in
    let w = a.w in
    let two = summed_then a.run.now _ _ _ _ _ w (omega arith) (omega arith) c.sum_rest-i.ensures.letters c.sum_rest-i-2.ensures.letters in
    let four = summed_then a.run.now _ _ _ _ _ w (omega arith) (omega arith) two c.sum_rest-i-3.ensures.letters in
    let eight = summed_then a.run.now _ _ _ _ _ w (omega arith) (omega arith) four c.sum_rest.ensures.letters in
    summed_as _ _ _ _ _ _ _ _ (omega arith) (omega (arith, all_over a.count _ c.requires.0 c.sum_rest.ensures.count.1)) refl eight
