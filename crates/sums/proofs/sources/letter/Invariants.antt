-- After every turn one run more is in the sum.
use Rattle.std.proofs.Common.{◌≡◌}
use Rattle.sums.specs.Sums.{sum_at}
use Rattle.sums.proofs.sources.letter.Given as goal

abbrev pub invariant-loop-start : goal.invariant-loop-start
invariant-loop-start l = l.sum ≡ sum_at l.from l.starts l.start-index l.at
