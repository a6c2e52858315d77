-- `begun` meets its contract: all ranks up to `b` have begun, and the next is looked at.
use Prim.Native.Nat.{◌≤◌}
use Rattle.one_turn.specs.Tables.{nth}
use Rattle.rounds.proofs.begun.Given as goal

abbrev pub invariant-loop-b : goal.invariant-loop-b
invariant-loop-b l = 1 ≤ l.b → nth l.delays l.b ≤ l.done
