-- After every turn one run more is in the block.
use Rattle.std.proofs.Common.{◌+◌}
use Rattle.sums.specs.Sums.{BlockOf}
use Rattle.sums.proofs.sources.block.Given as goal

abbrev pub invariant-loop-start : goal.invariant-loop-start
invariant-loop-start l = BlockOf l.from l.starts (l.start-index + 1) l.at l.block
