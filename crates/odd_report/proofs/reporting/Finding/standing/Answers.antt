-- `Finding::standing` meets its contract.
use native.Mathlib.Omega.{arith}
use mathlib.Core.Path.{◌≡◌, sym}
use Rattle.sequences.specs.Lists.{ranked}
use Rattle.odd_report.proofs.Standings.{after_nobody, after_one, after_another, after_several}
use Rattle.odd_report.proofs.reporting.Finding.standing.Goals as goal

pub returns-in-Nobody : goal.returns-in-Nobody
returns-in-Nobody c = sym (after_nobody _ _ _ c.in-Nobody.is)

pub returns-then-node-odd : goal.returns-then-node-odd
unfolding ranked
returns-then-node-odd c =
    let same : c.args.node ≡ ranked c.args.self.now.ids.now c.in-One.wrong.rank = omega arith in
    sym (after_one _ _ _ _ c.in-One.is same)

pub returns-else-node-odd : goal.returns-else-node-odd
unfolding ranked
returns-else-node-odd c =
    let other : c.args.node ≡ ranked c.args.self.now.ids.now c.in-One.wrong.rank → ⊥ = λ e. omega arith in
    sym (after_another _ _ _ _ c.in-One.is other)

pub returns-in-Several : goal.returns-in-Several
returns-in-Several c = sym (after_several _ _ _ c.in-Several.is)
