-- `down` meets its contract: each turn of the loop is one turn down more, and the last rank's, which is not made, would change nothing.
use Prim.Native.Nat.{◌+◌, ◌-◌, ◌≤◌}
use Rattle.one_turn.specs.Steps.Turns.{WayDown}
use Rattle.turns.proofs.down.Given as goal

abbrev pub invariant-loop-j : goal.invariant-loop-j
invariant-loop-j l = (l.j ≤ l.ranks.hi + 1) × WayDown l.ranks.exps.now l.starts l.below l.ranks.hi l.count ((l.j - 1) - l.below) l.initial.part l.part
