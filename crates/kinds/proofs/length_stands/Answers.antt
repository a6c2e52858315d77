-- `length_stands` meets its contract: the bytes and the range are the row's.
use mathlib.Core.Path.{◌∙◌}
use Rattle.kinds.specs.Kinds.{row_for_kind}
use Rattle.kinds.proofs.RowLaws.{other_test}
use Rattle.kinds.proofs.length_stands.Goals as goal

pub returns-then-kind-eq-REPAIRING_LONGER : goal.returns-then-kind-eq-REPAIRING_LONGER
unfolding row_for_kind
returns-then-kind-eq-REPAIRING_LONGER c = rw c.if-kind-eq-REPAIRING_LONGER.true c.stands_within.ensures

pub returns : goal.returns
returns c = c.stands_within-2.ensures ∙ other_test c.args.kind _ _ c.if-kind-eq-REPAIRING_LONGER.false
