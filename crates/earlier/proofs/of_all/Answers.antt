-- `of_all` meets its contract: after every turn what the run reads of the first a sequences is out.
use mathlib.Core.Path.{refl}
use Prim.Native.Nat.{◌+◌}
use native.Mathlib.Omega.{arith}
use Rattle.equation.specs.Rows.{shift_in}
use Rattle.earlier.proofs.Taking.{takes_first, takes_more}
use Rattle.earlier.proofs.of_all.Goals as goal

pub loop-a-init : goal.loop-a-init
loop-a-init c =
    let t = c.args.tile.now in
    takes_first t.system.n (shift_in t.system.rows.now) t.done t.count c.args.b c.args.part.now

pub loop-a-preserved : goal.loop-a-preserved
loop-a-preserved c =
    let l = c.loop-a in
    let t = c.args.tile.now in
    takes_more t.tile (omega arith) (omega arith) l.a (l.a + 1) refl (omega (arith, t.tile.few)) l.invariant c.of_one.ensures
