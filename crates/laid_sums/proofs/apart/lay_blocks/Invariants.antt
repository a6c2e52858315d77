-- After every turn the sum is laid up to `at`, and what is left are whole blocks.
use Rattle.std.proofs.Common.{◌≡◌, ◌-◌, ◌%◌, ◌≤◌, length}
use Rattle.letters.specs.Laid.{Laid}
use Rattle.letters.specs.Steps.Rests.{widest_block}
use Rattle.sums.specs.Sums.{sum_at}
use Rattle.laid_sums.proofs.apart.lay_blocks.Given as goal

abbrev pub invariant-loop-at : goal.invariant-loop-at
invariant-loop-at l =
    (l.start ≤ l.at)
    × (l.at ≤ length l.initial.into)
    × (l.at % widest_block ≡ length l.initial.into % widest_block)
    × Laid l.initial.into l.into l.start l.at (sum_at l.from l.starts (length l.starts))

abbrev pub decreases-loop-at : goal.decreases-loop-at
decreases-loop-at l = length l.initial.into - l.at
