-- `run` is safe: no more lines agree than were run.
use Rattle.std.proofs.Common.{◌≤◌}
use Rattle.desk.proofs.run.Given as goal

abbrev pub invariant-loop-n : goal.invariant-loop-n
invariant-loop-n l = l.agreed ≤ l.n
