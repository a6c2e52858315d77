-- After every turn, what sums the run at the stride that is left sums it as it came at the stride w.
use Rattle.std.proofs.Common.{ℕ, List, ◌≡◌, ◌-◌, ◌≤◌, length}
use Rattle.dividing.specs.Running.{RunningSum}
use Rattle.dividing.proofs.widened.Given as goal

abbrev pub invariant-loop-wide : goal.invariant-loop-wide
invariant-loop-wide l =
    (1 ≤ l.wide)
    × (length l.run ≡ length l.initial.run)
    × ((zs : List ℕ) → RunningSum l.run zs l.wide (length l.initial.run) l.wide → RunningSum l.initial.run zs l.w (length l.initial.run) l.w)

abbrev pub decreases-loop-wide : goal.decreases-loop-wide
decreases-loop-wide l = length l.initial.run - l.wide
