-- `up_turn` meets its contract: each turn of the loop is one step of the turn, since the run that it changes lies apart from the others.
use Rattle.one_turn.specs.Steps.Turns.{TurnUp}
use Rattle.one_turn.proofs.up_turn.Given as goal

abbrev pub invariant-loop-b : goal.invariant-loop-b
invariant-loop-b l = TurnUp l.exps l.starts l.hi l.count l.j l.b l.initial.part l.part
