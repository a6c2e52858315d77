-- `checks::exact` meets its contract.
use borrow.Author.Tests.{eq-eqb, ne_eqb}
use Rattle.group_checks.proofs.exact.Goals as goal

pub returns-then-length-wanted : goal.returns-then-length-wanted
returns-then-length-wanted c = simp (eq-eqb _ _ c.if-length-wanted.true)

pub returns : goal.returns
returns c = simp (ne_eqb _ _ c.if-length-wanted.false)
