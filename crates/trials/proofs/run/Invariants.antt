-- `run` is safe: what is kept of a page fits into the room.
use Rattle.std.proofs.Common.{◌≤◌, length}
use Rattle.trials.proofs.run.Given as goal

abbrev pub invariant-loop : goal.invariant-loop
invariant-loop l = l.kept ≤ length l.room
