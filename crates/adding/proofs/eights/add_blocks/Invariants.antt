-- After b turns b blocks are in, from the start on.
use Rattle.std.proofs.Common.{◌≡◌, ◌+◌, ◌*◌, take, drop}
use Rattle.letters.specs.Algebra.{xors}
use Rattle.letters.specs.Runs.{added}
use Rattle.letters.specs.Steps.Rests.{widest_block}
use Rattle.adding.proofs.eights.add_blocks.Given as goal

abbrev pub invariant-loop-b : goal.invariant-loop-b
invariant-loop-b l = l.into ≡ added xors l.initial.into (l.at + l.start) (take (l.b * widest_block) (drop l.start l.run))
