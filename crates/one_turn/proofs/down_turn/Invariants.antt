-- `down_turn` meets its contract: each turn of the loop is one step of the turn, since the run that it changes lies apart from the others.
use Rattle.one_turn.specs.Steps.Turns.{TurnDown}
use Rattle.one_turn.proofs.down_turn.Given as goal

abbrev pub invariant-loop-b : goal.invariant-loop-b
invariant-loop-b l = TurnDown l.ranks.exps.now l.starts l.ranks.hi l.count l.j l.b l.initial.part l.part
