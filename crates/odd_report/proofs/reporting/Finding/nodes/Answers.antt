-- `Finding::nodes` meets its contract: after i turns the first i entries are right.
use native.Mathlib.Omega.{arith}
use mathlib.Core.Path.{ap, ◌∙◌}
use lib.ListN.{length, length-set}
use Rattle.odd_report.specs.Standings.{standing_in}
use Rattle.comparing_nodes.specs.Steps.Noting.{wrong_nodes, wrong_place}
use Rattle.odd_report.specs.Steps.ByCount.{standing_by, odd_id}
use Rattle.odd_report.proofs.Standings.{are_nodes, length_absent, nodes_more}
use Rattle.odd_report.proofs.reporting.Finding.nodes.Goals as goal

pub loop-i-init : goal.loop-i-init
loop-i-init c = (ap length c.absent-nodes.ensures ∙ length_absent, λ q h. absurd (omega arith))

pub loop-i-preserved : goal.loop-i-preserved
loop-i-preserved c =
    let l = c.loop-i in
    (simp length-set l.invariant.0, nodes_more (standing_in c.args.self.now.ids.now (standing_by (wrong_nodes c.args.self.now.found) (odd_id c.args.self.now.ids.now c.args.self.now.found) (wrong_place c.args.self.now.found))) l.nodes l.i _ (omega (arith, l.invariant.0)) c.standing_of-standing.ensures l.invariant.1)

pub returns : goal.returns
returns c =
    let l = c.loop-i in
    are_nodes _ _ l.nodes l.invariant.0 (λ q h. l.invariant.1 q (omega arith))
