-- The letters of the last blocks, from block b on, are in.
use Rattle.std.proofs.Common.{◌+◌, ◌*◌}
use Rattle.letters.specs.Laid.{Laid}
use Rattle.letters.specs.Steps.Rests.{widest_block}
use Rattle.adding_after.specs.Added.{plus_from}
use Rattle.adding_after.proofs.blocks.add_blocks.Given as goal

abbrev pub invariant-loop-b : goal.invariant-loop-b
invariant-loop-b l = Laid l.initial.buffer l.buffer (l.to + l.b * widest_block) (l.to + l.count) (plus_from l.initial.buffer l.to l.from)
