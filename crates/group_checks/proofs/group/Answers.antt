-- `checks::group` meets its contract.
use Rattle.group.proofs.Refusals.{failed, held}
use Rattle.group.specs.Ranges.{group_refusal}
use mathlib.Core.Path.{ap}
use mathlib.Core.Bool.{not}
use Rattle.group_checks.proofs.group.Goals as goal

pub returns-then-not-numbers_in_range : goal.returns-then-not-numbers_in_range
unfolding group_refusal
returns-then-not-numbers_in_range c = simp (failed _ _ (ap not c.if-not-numbers_in_range.true) c.numbers_in_range.ensures)

pub returns-then-not-length_in_range : goal.returns-then-not-length_in_range
unfolding group_refusal
returns-then-not-length_in_range c = simp (held _ _ (ap not c.if-not-numbers_in_range.false) c.numbers_in_range.ensures, failed _ _ (ap not c.if-not-length_in_range.true) c.length_in_range.ensures)

pub returns : goal.returns
unfolding group_refusal
returns c = simp (held _ _ (ap not c.if-not-numbers_in_range.false) c.numbers_in_range.ensures, held _ _ (ap not c.if-not-length_in_range.false) c.length_in_range.ensures)
