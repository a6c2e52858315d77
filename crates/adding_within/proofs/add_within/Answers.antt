-- `add_within` meets its contract: the earlier letters lie in the front alone, and what is behind stays.
use Rattle.std.proofs.Common.{◌++◌, ◌∙◌, ap₂, arith, take, drop, length-take, length-drop}
use Rattle.letters.specs.Algebra.{xors}
use Rattle.letters.specs.Runs.{added}
use Rattle.letters.proofs.Runs.{added_front}
use Rattle.adding_within.proofs.add_within.Goals as goal

pub returns-clause-letters : goal.returns-clause-letters
returns-clause-letters c =
    let a = c.args in
    let run = take a.count (drop a.from a.buffer.now) in
    let front = c.split_at_mut-earlier.ensures.front in
    let back = c.split_at_mut-earlier.ensures.back in
    ap₂ ◌++◌ (c.add_run.ensures.letters ∙ ap₂ (λ xs ys. added xors xs a.to (take a.count ys)) front back) back
    ∙ added_front xors a.buffer.now a.from a.to run (simp (length-take, length-drop) (omega arith))
