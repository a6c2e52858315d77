-- `put` meets its contract: after i turns the numbers of the first i nodes are there.
use native.Mathlib.Omega.{arith}
use mathlib.Core.Path.{sym, ◌∙◌}
use Prim.Native.Nat.{◌-◌}
use lib.ListN.{length-set}
use Rattle.c_odd.proofs.Numbers.{put_none, put_more, put_all}
use Rattle.c_odd.proofs.put.Goals as goal

pub loop-i-init : goal.loop-i-init
loop-i-init c = put_none _ _ c.requires

pub bounds-report-i : goal.bounds-report-i
bounds-report-i c = omega (arith, c.loop-i.invariant.long)

pub bounds-report-i-in-loop-i : goal.bounds-report-i-in-loop-i
bounds-report-i-in-loop-i c = simp length-set (omega (arith, c.loop-i.invariant.long))

pub loop-i-preserved : goal.loop-i-preserved
loop-i-preserved c =
    let l = c.loop-i in
    put_more _ l.report l.i _ _ (omega arith) c.state.ensures c.place.ensures l.invariant

pub shape_of-report : goal.shape_of-report
shape_of-report c = c.loop-i.invariant.long ∙ sym c.requires

pub returns : goal.returns
returns c = put_all _ c.loop-i.report c.loop-i.i (omega arith) c.loop-i.invariant
