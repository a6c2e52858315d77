-- `find` meets its contract: a call that is refused tells so, and one that isn't goes on.
use Rattle.group.proofs.Refusals.{fine, stopped}
use Rattle.odd_one.proofs.Telling.{refused_reports}
use Rattle.odd_one.proofs.find.Goals as goal

pub find_present-requires : goal.find_present-requires
find_present-requires c = fine _ _ c.in-Ok.is c.check.ensures

pub returns-in-Err : goal.returns-in-Err
returns-in-Err c = refused_reports _ _ _ _ _ _ (stopped _ _ _ c.in-Err.is c.check.ensures) c.refused.ensures
