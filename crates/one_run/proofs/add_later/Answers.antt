-- `one_run::add_later` meets its contract: the letters that stay inside the run are added where they come to lie.
use native.Mathlib.Omega.{arith}
use Rattle.adding_after.proofs.Downward.{added_laid}
use Rattle.one_run.proofs.OneRun.{added_nothing, laid_added}
use Rattle.one_run.proofs.add_later.Goals as goal

pub returns-then-moved-count : goal.returns-then-moved-count
returns-then-moved-count c = laid_added _ _ _ _ _ _ (omega arith) (added_laid _ _ _ _ _ (omega arith) (omega arith) c.add_within.ensures.letters)

pub returns-else-moved-count : goal.returns-else-moved-count
returns-else-moved-count c = added_nothing _ _ _ _ _ (omega arith)
