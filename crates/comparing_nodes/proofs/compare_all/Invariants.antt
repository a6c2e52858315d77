-- `compare_all` meets its contract: the first v ranks are compared.
use Prim.Native.Nat.{◌<◌}
use Rattle.agreement.specs.Steps.Trying.{Compared}
use Rattle.comparing_nodes.specs.Steps.Noting.{wrong_nodes, wrong_rank, wrong_place}
use Rattle.comparing_nodes.proofs.compare_all.Given as goal

abbrev pub invariant-loop-v : goal.invariant-loop-v
invariant-loop-v l = (wrong_nodes l.found < 2) × Compared l.nodes.g l.nodes.ids.now l.nodes.packets.now l.file l.v (wrong_nodes l.found) (wrong_rank l.found) (wrong_place l.found)
