-- After r turns the letters of r blocks are copied.
use Rattle.std.proofs.Common.{◌*◌}
use Rattle.letters.specs.Laid.{Laid}
use Rattle.records.specs.Records.{block_letters}
use Rattle.records.specs.Steps.Places.{letter_in}
use Rattle.block_letters.proofs.reading.copy_letters.Given as goal

abbrev pub invariant-loop-r : goal.invariant-loop-r
invariant-loop-r l = Laid l.initial.packets l.packets 0 (l.r * block_letters) (letter_in l.front l.share)
