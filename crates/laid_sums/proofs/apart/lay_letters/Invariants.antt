-- After every turn one letter more of the sum is laid.
use Rattle.std.proofs.Common.{length}
use Rattle.letters.specs.Laid.{Laid}
use Rattle.sums.specs.Sums.{sum_at}
use Rattle.laid_sums.proofs.apart.lay_letters.Given as goal

abbrev pub invariant-loop-at : goal.invariant-loop-at
invariant-loop-at l = Laid l.initial.into l.into 0 l.at (sum_at l.from l.starts (length l.starts))
