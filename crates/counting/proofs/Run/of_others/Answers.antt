-- `Run::of_others` meets its contract: after every turn one rank more is in the sum.
use mathlib.Core.Path.{sym, ap₂, ◌∙◌}
use Prim.Native.Nat.{◌+◌}
use native.Mathlib.Omega.{arith}
use Rattle.letters.specs.Algebra.{counts}
use Rattle.letters.proofs.Sums.{sum_more, sum_none_terms}
use Rattle.counting.proofs.Run.of_others.Goals as goal

pub loop-b-init : goal.loop-b-init
loop-b-init c = (sym (sum_none_terms counts _), omega arith)

pub loop-b-preserved : goal.loop-b-preserved
loop-b-preserved c =
    let l = c.loop-b in
    (ap₂ ◌+◌ l.invariant.0 c.of_other-count.ensures.0 ∙ sym (sum_more counts l.b _), omega arith)
