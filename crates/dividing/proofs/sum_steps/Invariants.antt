-- `sum_steps` meets its contract: after every turn the first i letters are in, which are whole steps.
use mathlib.Core.Path.{◌≡◌}
use Prim.Native.Nat.{◌+◌, ◌-◌, ◌%◌, ◌≤◌}
use lib.ListN.{length}
use Rattle.dividing.specs.Running.{RunningSum}
use Rattle.dividing.specs.Steps.Widening.{step}
use Rattle.dividing.proofs.sum_steps.Given as goal

abbrev pub invariant-loop-i : goal.invariant-loop-i
invariant-loop-i l =
    (l.i ≤ l.count)
    × (l.i % step ≡ l.count % step)
    × (length l.run ≡ length l.initial.run)
    × RunningSum l.initial.run l.run (l.w + l.from) (l.w + l.from + l.i) l.w

abbrev pub decreases-loop-i : goal.decreases-loop-i
decreases-loop-i l = l.count - l.i
