-- `collecting::collect` meets its contract: the first u columns stand one after another.
use Prim.Native.Nat.{◌+◌, ◌*◌}
use lib.ListN.{get_or}
use Rattle.letters.specs.Laid.{Laid}
use Rattle.matrix.specs.Matrix.{before}
use Rattle.gathering.specs.Steps.Gathered.{collected_without}
use Rattle.gathering.proofs.collecting.collect.Given as goal

abbrev pub invariant-loop-u : goal.invariant-loop-u
invariant-loop-u l = Laid l.initial.file l.file 0 (before l.nodes.g.k (l.u + 1) * l.nodes.g.l) (λ q. get_or (collected_without l.nodes.g l.nodes.ids.now l.nodes.packets.now l.without) q 0)
