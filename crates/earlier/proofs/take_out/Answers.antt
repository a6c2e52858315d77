-- `take_out` meets its contract: after every turn the ranks up to b are done.
use mathlib.Core.Path.{refl}
use Prim.Native.Nat.{◌+◌}
use native.Mathlib.Omega.{arith}
use Rattle.earlier.proofs.Taking.{takes_out_more}
use Rattle.earlier.proofs.take_out.Goals as goal

pub loop-b-preserved : goal.loop-b-preserved
loop-b-preserved c =
    let l = c.loop-b in
    takes_out_more c.args.tile.now.tile l.b (l.b + 1) (omega arith) refl (omega arith) l.invariant c.of_all.ensures
