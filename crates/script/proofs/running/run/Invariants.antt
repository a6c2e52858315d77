-- `running::run` is safe: each line starts behind the one before it, and what runs a line can run the next one, too.
use Rattle.std.proofs.Common.{length, ◌-◌}
use denote.Param.Always.{always_mut}
use Rattle.script.proofs.running.run.Given as goal

abbrev pub invariant-loop-at : goal.invariant-loop-at
invariant-loop-at g l = always_mut g.F.FnMut l.initial.call → always_mut g.F.FnMut l.call

abbrev pub decreases-loop-at : goal.decreases-loop-at
decreases-loop-at g l = length l.text - l.at
