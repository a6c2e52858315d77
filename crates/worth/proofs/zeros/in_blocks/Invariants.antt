-- The zeros of the odd letters and of the blocks passed are counted.
use Rattle.std.proofs.Common.{◌+◌, ◌*◌}
use Rattle.letters.specs.Steps.Rests.{widest_block}
use Rattle.worth.specs.Steps.Zeros.{Zeros}
use Rattle.worth.proofs.zeros.in_blocks.Given as goal

abbrev pub invariant-loop-b : goal.invariant-loop-b
invariant-loop-b l = Zeros l.letters 0 (l.first + l.b * widest_block) l.zeros
