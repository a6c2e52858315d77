-- `add_run` meets its contract: the rests are in first, and then the blocks that are left.
use Rattle.letters.specs.Algebra.{xors}
use Rattle.letters.proofs.Runs.{added_whole}
use Rattle.letters.proofs.Rests.{in_run}
use Rattle.adding.proofs.add_run.Goals as goal

pub returns-clause-letters : goal.returns-clause-letters
returns-clause-letters c = added_whole xors c.args.into.now _ _ c.args.at c.args.run.now _ (in_run _ _ _ c.add_rests-i.ensures.count) c.add_rests-i.ensures.letters c.add_blocks.ensures
