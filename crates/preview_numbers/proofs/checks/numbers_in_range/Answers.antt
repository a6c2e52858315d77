-- `checks::numbers_in_range` meets its contract: each return tells which of the tests fails.
use Rattle.letters.proofs.Places.{both_no}
use Rattle.group.proofs.Refusals.{failed, held}
use borrow.Author.Tests.{le-leb, lt-leb}
use Rattle.preview_numbers.specs.Previews.{preview_numbers_in_range}
use mathlib.Core.Path.{ap}
use mathlib.Core.Bool.{not}
use Rattle.preview_numbers.proofs.checks.numbers_in_range.Goals as goal

pub returns-then-not-is_between : goal.returns-then-not-is_between
unfolding preview_numbers_in_range
returns-then-not-is_between c = simp (failed _ _ (ap not c.if-not-is_between.true) c.is_between.ensures)

pub returns-then-g-lt2 : goal.returns-then-g-lt2
unfolding preview_numbers_in_range
returns-then-g-lt2 c = simp (lt-leb _ _ c.if-g-lt2.true, both_no)

pub returns-then-g : goal.returns-then-g
unfolding preview_numbers_in_range
returns-then-g c = simp (lt-leb _ _ c.if-g.true, both_no)

pub returns : goal.returns
unfolding preview_numbers_in_range
returns c =
    let g = c.args.g in
    simp (held _ _ (ap not c.if-not-is_between.false) c.is_between.ensures, le-leb 2 g.k c.if-g-lt2.false, le-leb g.k g.n c.if-g.false)
