-- `up` meets its contract: each turn of the loop leaves one turn up fewer; the last rank's, with which the way begins, would change nothing.
use Prim.Native.Nat.{◌-◌}
use Rattle.one_turn.specs.Steps.Turns.{WayUp}
use Rattle.turns.proofs.up.Given as goal

abbrev pub invariant-loop-j : goal.invariant-loop-j
invariant-loop-j l = WayUp l.ranks.exps.now l.starts l.below l.ranks.hi l.count ((l.j - 1) - l.below) l.initial.part l.part
