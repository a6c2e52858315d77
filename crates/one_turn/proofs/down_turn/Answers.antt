-- `down_turn` meets its contract: each turn of the loop is one step of the turn, since the run that it changes lies apart from the others.
use mathlib.Core.Path.{◌≡◌, refl}
use Prim.Native.Nat.{◌+◌}
use native.Mathlib.Omega.{arith}
use Rattle.one_turn.proofs.Tables.{nth_next, exponents_apart}
use Rattle.one_turn.proofs.Turns.{turn_down_start, turn_down_more}
use Rattle.one_turn.proofs.down_turn.Goals as goal

pub loop-b-init : goal.loop-b-init
loop-b-init c = turn_down_start _ _ _ _ _ _

pub add_earlier-requires : goal.add_earlier-requires
add_earlier-requires c =
    let b = c.loop-b.b in
    let next = nth_next c.args.starts.now b in
    (omega (arith, c.requires.runs.order c.args.j (b + 1) (omega arith) (omega arith) (omega arith)), omega (arith, c.requires.runs.fits (b + 1) (omega arith) (omega arith)))

pub overflow_sub-stride-in-loop-b : goal.overflow_sub-stride-in-loop-b
overflow_sub-stride-in-loop-b c =
    let r = c.args.ranks.now in
    let b = c.loop-b.b in
    omega (arith, nth_next r.exps.now b, exponents_apart _ r.exps.now r.tables.ordered c.args.j (b + 1) (omega arith) (omega arith) (omega arith))

pub sum_up-requires : goal.sum_up-requires
sum_up-requires c =
    let r = c.args.ranks.now in
    let b = c.loop-b.b in (
      omega (arith, nth_next r.exps.now b, exponents_apart _ r.exps.now r.tables.ordered c.args.j (b + 1) (omega arith) (omega arith) (omega arith)),
      omega (arith, nth_next c.args.starts.now b, c.requires.runs.fits (b + 1) (omega arith) (omega arith)),
    )

pub loop-b-preserved : goal.loop-b-preserved
loop-b-preserved c =
    let l = c.loop-b in
    let start = nth_next c.args.starts.now l.b in
    let exponent = nth_next c.args.ranks.now.exps.now l.b in
    turn_down_more _ _ _ _ _ _ _ (omega arith) (omega arith) refl (omega arith) _ _ _ _ l.invariant
    (rw (c.lag-moved.ensures, ← start) at c.add_earlier.ensures)
    (rw (← start, ← exponent) at c.sum_up.ensures)

pub returns : goal.returns
returns c =
    let e : c.loop-b.b ≡ c.args.ranks.now.hi = omega arith in rw e at c.loop-b.invariant
