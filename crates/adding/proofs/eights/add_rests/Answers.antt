-- `eights::add_rests` meets its contract: after every step the first i letters of the run are in.
use Rattle.std.proofs.Common.{arith, length}
use Rattle.letters.specs.Algebra.{xors}
use Rattle.letters.proofs.Runs.{added_then}
use Rattle.letters.proofs.Rests.{in_run, odd_letters}
use Rattle.adding.proofs.eights.add_rests.Goals as goal

pub add_rest-i-requires-clause-lengths : goal.add_rest-i-requires-clause-lengths
add_rest-i-requires-clause-lengths c = (odd_letters _, omega arith)

pub overflow_add-i : goal.overflow_add-i
overflow_add-i c = omega (arith, in_run _ _ _ c.add_rest-i.ensures.count)

pub overflow_add-i-2 : goal.overflow_add-i-2
overflow_add-i-2 c = omega (arith, in_run _ _ _ c.add_rest-i-2.ensures.count)

pub overflow_add-i-3 : goal.overflow_add-i-3
overflow_add-i-3 c = omega (arith, in_run _ _ _ c.add_rest-i-3.ensures.count)

pub overflow_add-i-4 : goal.overflow_add-i-4
overflow_add-i-4 c = omega (arith, in_run _ _ _ c.add_rest-i-4.ensures.count)

pub returns-clause-letters : goal.returns-clause-letters
returns-clause-letters c =
    let a = c.args in
    let one = added_then xors a.into.now _ _ a.at a.run.now _ c.add_rest-i.result (in_run _ _ _ (odd_letters (length a.run.now))) c.add_letters.ensures c.add_rest-i.ensures.letters in
    let two = added_then xors a.into.now _ _ a.at a.run.now _ c.add_rest-i-2.result (in_run _ _ _ c.add_rest-i.ensures.count) one c.add_rest-i-2.ensures.letters in
    let four = added_then xors a.into.now _ _ a.at a.run.now _ c.add_rest-i-3.result (in_run _ _ _ c.add_rest-i-2.ensures.count) two c.add_rest-i-3.ensures.letters in
    added_then xors a.into.now _ _ a.at a.run.now _ c.add_rest-i-4.result (in_run _ _ _ c.add_rest-i-3.ensures.count) four c.add_rest-i-4.ensures.letters
