-- `note` meets its contract.
use native.Mathlib.Omega.{arith}
use mathlib.Core.Path.{sym, ap}
use mathlib.Core.Logic.{⊎_elim}
use Rattle.comparing_nodes.specs.Steps.Noting.{wrong_nodes}
use Rattle.comparing_nodes.proofs.Noting.{noted_right, noted_first, noted_more}
use Rattle.comparing_nodes.proofs.note.Goals as goal

pub returns-then-count-right : goal.returns-then-count-right
returns-then-count-right c = sym (noted_right _ _ _ _ c.if-count-right.true)

pub returns-in-Nobody : goal.returns-in-Nobody
returns-in-Nobody c = sym (noted_first _ _ _ _ c.if-count-right.false (ap wrong_nodes c.in-Nobody.is))

pub returns-in-One : goal.returns-in-One
returns-in-One c = sym (noted_more _ _ _ _ c.if-count-right.false (⊎_elim (λ w e. let n = ap wrong_nodes w.1 in omega arith) (λ w e. let n = ap wrong_nodes w in omega arith) c.in-One.is))
