-- `up_turn` meets its contract: each turn of the loop is one step of the turn, since the run that it changes lies apart from the others.
use mathlib.Core.Path.{◌≡◌, refl}
use Prim.Native.Nat.{◌+◌}
use native.Mathlib.Omega.{arith}
use Rattle.one_turn.proofs.Tables.{nth_next, exponents_apart}
use Rattle.one_turn.proofs.Turns.{turn_up_start, turn_up_more}
use Rattle.one_turn.proofs.up_turn.Goals as goal

pub loop-b-init : goal.loop-b-init
loop-b-init c = turn_up_start _ _ _ _ _ _

pub overflow_sub-moved-in-loop-b : goal.overflow_sub-moved-in-loop-b
overflow_sub-moved-in-loop-b c =
    let b = c.loop-b.b in
    omega (arith, nth_next c.args.exps.now b, exponents_apart _ c.args.exps.now c.requires.tables.0 c.args.j (b + 1) (omega arith) (omega arith) (omega arith))

pub loop-b-preserved : goal.loop-b-preserved
loop-b-preserved c =
    let l = c.loop-b in
    turn_up_more _ _ _ _ _ _ _ (omega arith) (omega arith) refl (omega arith) _ _ _ l.invariant
    (rw (← nth_next c.args.starts.now l.b, ← nth_next c.args.exps.now l.b) at c.add_later.ensures)

pub returns : goal.returns
returns c =
    let e : c.loop-b.b ≡ c.args.hi = omega arith in rw e at c.loop-b.invariant
