-- `checks::ids` meets its contract: 3 is decided before 4.
use borrow.Author.Tests.{eq-eqb, ne_eqb}
use Rattle.ids.specs.Ids.{ids_refusal}
use Rattle.group.proofs.Refusals.{failed, held}
use mathlib.Core.Path.{ap}
use mathlib.Core.Bool.{not}
use Rattle.ids.proofs.check.Goals as goal

pub returns-then-ids-wanted : goal.returns-then-ids-wanted
unfolding ids_refusal
returns-then-ids-wanted c = simp (ne_eqb _ _ c.if-ids-wanted.true)

pub returns-then-not-all_in_range : goal.returns-then-not-all_in_range
unfolding ids_refusal
returns-then-not-all_in_range c = simp (eq-eqb _ _ c.if-ids-wanted.false, failed _ _ (ap not c.if-not-all_in_range.true) c.all_in_range.ensures)

pub returns-then-not-strictly_falling : goal.returns-then-not-strictly_falling
unfolding ids_refusal
returns-then-not-strictly_falling c =
    simp
    (eq-eqb _ _ c.if-ids-wanted.false, held _ _ (ap not c.if-not-all_in_range.false) c.all_in_range.ensures, failed _ _ (ap not c.if-not-strictly_falling.true) c.strictly_falling.ensures)

pub returns : goal.returns
unfolding ids_refusal
returns c =
    simp
    (eq-eqb _ _ c.if-ids-wanted.false, held _ _ (ap not c.if-not-all_in_range.false) c.all_in_range.ensures, held _ _ (ap not c.if-not-strictly_falling.false) c.strictly_falling.ensures)
