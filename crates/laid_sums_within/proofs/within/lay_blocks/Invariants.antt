-- After every turn one block more of the sum is laid; the runs that it is taken from are as they came from there on.
use Rattle.std.proofs.Common.{◌+◌, ◌-◌, ◌*◌, length}
use Rattle.letters.specs.Laid.{Laid}
use Rattle.letters.specs.Steps.Rests.{widest_block}
use Rattle.sums.specs.Sums.{sum_at}
use Rattle.laid_sums_within.proofs.within.lay_blocks.Given as goal

abbrev pub invariant-loop-b : goal.invariant-loop-b
invariant-loop-b l = Laid l.initial.buffer l.buffer (l.to + l.start) (l.to + (l.start + l.b * widest_block)) (λ p. sum_at l.initial.buffer l.starts (length l.starts) (p - l.to))
