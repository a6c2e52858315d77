-- `checks::numbers_in_range` meets its contract: each return tells which of the tests fails.
use mathlib.Core.Path.{◌≡◌}
use mathlib.Core.Bool.{false}
use native.Mathlib.Omega.{arith}
use Rattle.letters.proofs.Places.{both_no}
use Rattle.group.proofs.Refusals.{failed, held}
use Rattle.group.proofs.InRange.{between_true}
use Rattle.group.specs.Ranges.{between, numbers_in_range}
use mathlib.Core.Path.{ap}
use mathlib.Core.Bool.{not}
use Rattle.group_checks.proofs.numbers_in_range.Goals as goal

pub returns-then-not-is_between : goal.returns-then-not-is_between
unfolding numbers_in_range
returns-then-not-is_between c =
    let outside : between 3 16 c.args.g.n ≡ false = failed _ _ (ap not c.if-not-is_between.true) c.is_between.ensures in
    simp outside

pub returns-then-not-is_between-2 : goal.returns-then-not-is_between-2
unfolding numbers_in_range
returns-then-not-is_between-2 c = simp (failed _ _ (ap not c.if-not-is_between-2.true) c.is_between-2.ensures, both_no)

pub overflow_sub-result : goal.overflow_sub-result
overflow_sub-result c = omega (arith, between_true 3 16 c.args.g.n (held _ _ (ap not c.if-not-is_between.false) c.is_between.ensures))

pub returns : goal.returns
unfolding numbers_in_range
returns c = simp (held _ _ (ap not c.if-not-is_between.false) c.is_between.ensures, held _ _ (ap not c.if-not-is_between-2.false) c.is_between-2.ensures)
