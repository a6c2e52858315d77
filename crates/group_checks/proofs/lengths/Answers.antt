-- `checks::lengths` meets its contract.
use borrow.Author.Tests.{eq-eqb, ne_eqb}
use Rattle.group_checks.proofs.lengths.Goals as goal

pub returns-then-input-wanted_in : goal.returns-then-input-wanted_in
returns-then-input-wanted_in c = simp (ne_eqb _ _ c.if-input-wanted_in.true)

pub returns : goal.returns
returns c = simp (eq-eqb _ _ c.if-input-wanted_in.false) c.exact.ensures
