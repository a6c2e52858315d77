-- `length_bytes` meets its contract: four in kind 6, and two in every other row.
use Rattle.kinds.specs.Kinds.{row_for_kind}
use native.Mathlib.Omega.{arith}
use Rattle.kinds.proofs.RowLaws.{other_bytes}
use Rattle.kinds.proofs.length_bytes.Goals as goal

pub returns-then-kind-eq-REPAIRING_LONGER : goal.returns-then-kind-eq-REPAIRING_LONGER
unfolding row_for_kind
returns-then-kind-eq-REPAIRING_LONGER c = (rw c.if-kind-eq-REPAIRING_LONGER.true, omega arith)

pub returns : goal.returns
returns c = (other_bytes _ c.if-kind-eq-REPAIRING_LONGER.false, omega arith)
