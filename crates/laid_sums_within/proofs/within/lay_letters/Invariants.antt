-- After every turn one letter more of the sum is laid; the runs that it is taken from are as they came from there on.
use Rattle.std.proofs.Common.{◌+◌, ◌-◌, length}
use Rattle.letters.specs.Laid.{Laid}
use Rattle.sums.specs.Sums.{sum_at}
use Rattle.laid_sums_within.proofs.within.lay_letters.Given as goal

abbrev pub invariant-loop-at : goal.invariant-loop-at
invariant-loop-at l = Laid l.initial.buffer l.buffer l.to (l.to + l.at) (λ p. sum_at l.initial.buffer l.starts (length l.starts) (p - l.to))
