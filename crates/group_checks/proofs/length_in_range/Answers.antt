-- `checks::length_in_range` meets its contract.
use Rattle.group.specs.Ranges.{length_in_range}
use Rattle.group_checks.proofs.length_in_range.Goals as goal

pub returns : goal.returns
unfolding length_in_range
returns c = c.is_between.ensures
