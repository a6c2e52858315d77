-- After r turns r blocks are laid.
use Rattle.std.proofs.Common.{◌+◌, ◌*◌}
use Rattle.letters.specs.Laid.{Laid}
use Rattle.records.specs.Records.{block_size}
use Rattle.block_letters.specs.Steps.Blocks.{blocks_byte}
use Rattle.block_letters.proofs.writing.put_full_blocks.Given as goal

abbrev pub invariant-loop-r : goal.invariant-loop-r
invariant-loop-r l = Laid l.initial.share l.share l.front (l.front + l.r * block_size) (blocks_byte l.front l.packets)
