-- `lengths::repair` meets its contract.
use Rattle.lengths.specs.Lengths.{repair_letters}
use Rattle.lengths.proofs.known.Member.repair_letters.Goals as goal

pub returns : goal.returns
unfolding repair_letters
returns c = c.widened.ensures.0
