-- `up` meets its contract: each turn of the loop leaves one turn up fewer; the last rank's, with which the way begins, would change nothing.
use Prim.Native.Nat.{◌-◌}
use native.Mathlib.Omega.{arith}
use Rattle.one_turn.proofs.Runs.{apart_later}
use Rattle.one_turn.proofs.Turns.{way_up_start, way_up_more}
use Rattle.turns.proofs.up.Goals as goal

pub loop-j-init : goal.loop-j-init
loop-j-init c = way_up_start _ _ _ _ _ _ c.requires.runs

pub loop-j-preserved : goal.loop-j-preserved
loop-j-preserved c =
    let l = c.loop-j in
    way_up_more _ _ _ _ _ (l.j - 1) _ _ _ (omega arith)
    (apart_later _ _ _ _ _ _ _ (omega arith) l.invariant.only.same_length c.requires.runs) l.invariant c.up_turn.ensures
