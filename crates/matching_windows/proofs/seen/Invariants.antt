-- `seen` meets its contract: all letters before index at are the same.
use Prim.Native.Nat.{◌-◌}
use lib.ListN.{length}
use Rattle.matching.specs.Same.{SameTo}
use Rattle.matching_windows.specs.Windows.{seen_letter}
use Rattle.matching_windows.proofs.seen.Given as goal

abbrev pub invariant-loop-at : goal.invariant-loop-at
invariant-loop-at l = SameTo l.held (seen_letter l.runs.from.now l.runs.starts.now l.runs.leads.now (length l.runs.starts.now) l.runs.size l.skip) l.at

abbrev pub decreases-loop-at : goal.decreases-loop-at
decreases-loop-at l = length l.held - l.at
