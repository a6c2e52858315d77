-- `Finding::nodes` meets its contract: after i turns the first i entries are right.
use mathlib.Core.Path.{◌≡◌}
use Prim.Native.Nat.{ℕ, ◌+◌, ◌<◌}
use lib.ListN.{length, get_or}
use Rattle.odd_report.specs.declared.Standing.TheVariants.{Absent}
use Rattle.odd_report.specs.Standings.{standing_in}
use Rattle.comparing_nodes.specs.Steps.Noting.{wrong_nodes, wrong_place}
use Rattle.odd_report.specs.Steps.ByCount.{standing_by, odd_id}
use Rattle.odd_report.proofs.Standings.{node_with}
use Rattle.odd_report.proofs.reporting.Finding.nodes.Given as goal

abbrev pub invariant-loop-i : goal.invariant-loop-i
invariant-loop-i l = (length l.nodes ≡ 16) × ((q : ℕ) → q < l.i → get_or l.nodes q (node_with Absent) ≡ node_with (standing_in l.self.ids.now (standing_by (wrong_nodes l.self.found) (odd_id l.self.ids.now l.self.found) (wrong_place l.self.found)) (q + 1)))
