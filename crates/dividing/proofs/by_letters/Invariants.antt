-- The letters before index i are summed.
use Rattle.dividing.specs.Running.{RunningSum}
use Rattle.dividing.proofs.by_letters.Given as goal

abbrev pub invariant-loop-i : goal.invariant-loop-i
invariant-loop-i l = RunningSum l.initial.run l.run l.w l.i l.w
