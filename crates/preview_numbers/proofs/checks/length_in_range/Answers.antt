-- `checks::length_in_range` meets its contract.
use Rattle.preview_numbers.specs.Previews.{preview_length_in_range}
use Rattle.preview_numbers.proofs.checks.length_in_range.Goals as goal

pub returns : goal.returns
unfolding preview_length_in_range
returns c = c.is_between.ensures
