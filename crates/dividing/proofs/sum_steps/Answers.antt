-- `sum_steps` meets its contract: after every turn the first i letters are in, which are whole steps.
use mathlib.Core.Path.{refl, sym}
use Prim.Native.Nat.{◌+◌}
use native.Mathlib.Omega.{arith}
use Rattle.dividing.specs.Steps.Widening.{step}
use Rattle.dividing.proofs.Running.{nothing_summed, summed_block, summed_then, summed_until, whole_steps}
use borrow.Author.Rules.{rules}
use Rattle.dividing.proofs.sum_steps.Goals as goal

pub loop-i-init : goal.loop-i-init
loop-i-init c = (omega arith, sym (whole_steps _ c.requires.0), refl, nothing_summed _ _ _ _ (omega arith))

pub add_block-requires : goal.add_block-requires
add_block-requires c = (omega arith, omega arith, omega arith)

pub loop-i-smaller : goal.loop-i-smaller
loop-i-smaller c = omega arith

pub loop-i-preserved : goal.loop-i-preserved
loop-i-preserved c =
    let l = c.loop-i in
    let a = c.args in
    let to = a.w + a.from in
    let block = summed_block l.run _ (to + l.i) (a.from + l.i) step (to + (l.i + step)) a.w (omega arith) (omega arith) (omega arith) (omega arith) c.add_block.ensures in (
      omega arith,
      omega arith,
      search rules,
      summed_then a.run.now _ _ to (to + l.i) (to + (l.i + step)) a.w (omega arith) (omega arith) l.invariant.3 block,
    )

pub shape_of-run : goal.shape_of-run
shape_of-run c = c.loop-i.invariant.2

pub returns : goal.returns
returns c = summed_until _ _ _ _ _ _ (omega arith) c.loop-i.invariant.3
