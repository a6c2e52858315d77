-- `serves` meets its contract: kind 1 up to its longest, kind 6 above.
use native.Mathlib.Omega.{arith}
use Rattle.kinds.proofs.RowLaws.{one_serves, six_serves, none_serves}
use Rattle.kinds.proofs.serves.Goals as goal

pub returns-in-1 : goal.returns-in-1
returns-in-1 c = rw c.in-1.is (one_serves c.args.l)

pub returns-in-6 : goal.returns-in-6
returns-in-6 c = rw c.in-6.is (six_serves c.args.l)

pub returns-in_default : goal.returns-in_default
returns-in_default c = none_serves c.args.kind c.args.l (λ e. omega arith) (λ e. omega arith)
