-- Every byte passed is zero.
use Rattle.skipping.specs.Steps.Skipping.{ZerosTo}
use Rattle.skipping.proofs.past_zeros.Given as goal

abbrev pub invariant-loop-i : goal.invariant-loop-i
invariant-loop-i l = ZerosTo l.share l.at l.end l.i
