-- The run is counted as a slice of its own.
use Rattle.std.proofs.Common.{refl, arith, ◌∙◌}
use Rattle.worth.proofs.Worth.{worth_of_slice}
use Rattle.worth.proofs.add_within.Goals as goal

pub returns-clause-count : goal.returns-clause-count
returns-clause-count c = c.count-worth.ensures ∙ worth_of_slice _ c.args.from c.args.count _ refl (omega arith)
