-- `collecting::collect_column` meets its contract: the first v pieces stand one after another.
use mathlib.Core.Path.{◌≡◌}
use Prim.Native.Nat.{◌+◌, ◌-◌, ◌*◌}
use lib.ListN.{get_or}
use Rattle.letters.specs.Laid.{Laid}
use Rattle.matrix.specs.Matrix.{before, entry_number}
use Rattle.gathering.specs.Steps.Gathered.{collected_without}
use Rattle.gathering.proofs.collecting.collect_column.Given as goal

abbrev pub invariant-loop-v : goal.invariant-loop-v
invariant-loop-v l = (l.at ≡ (entry_number l.nodes.g.k (l.v + 1) l.u - 1) * l.nodes.g.l) × Laid l.initial.file l.file (before l.nodes.g.k l.u * l.nodes.g.l) l.at (λ q. get_or (collected_without l.nodes.g l.nodes.ids.now l.nodes.packets.now l.without) q 0)
