-- After every step the letters from i on are in.
use Rattle.std.proofs.Common.{arith}
use Rattle.adding_after.proofs.Downward.{laid_down}
use Rattle.adding_after.proofs.blocks.add_rests.Goals as goal

pub returns-clause-letters : goal.returns-clause-letters
returns-clause-letters c =
    let a = c.args in
    let one = laid_down a.buffer.now _ _ a.to a.from _ _ a.count c.requires.0 c.add_rest-i.ensures.left.0 (omega arith) c.add_odd-i.ensures.letters c.add_rest-i.ensures.letters in
    let two = laid_down a.buffer.now _ _ a.to a.from _ _ a.count c.requires.0 c.add_rest-i-2.ensures.left.0 (omega arith) one c.add_rest-i-2.ensures.letters in
    let four = laid_down a.buffer.now _ _ a.to a.from _ _ a.count c.requires.0 c.add_rest-i-3.ensures.left.0 (omega arith) two c.add_rest-i-3.ensures.letters in
    laid_down a.buffer.now _ _ a.to a.from _ _ a.count c.requires.0 c.add_rest.ensures.left.0 (omega arith) four c.add_rest.ensures.letters
