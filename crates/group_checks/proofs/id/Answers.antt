-- `checks::id` meets its contract: an id is one of 1..n.
use Rattle.group.specs.Ranges.{id_refusal}
use Rattle.group_checks.proofs.id.Goals as goal

pub returns : goal.returns
unfolding id_refusal
returns c = c.one_of.ensures
