-- `put_judgment` meets its contract: each case of a judgment is told as it has to be.
use Rattle.c_judgment.proofs.Told.{told_share, told_misfit, told_fault}
use Rattle.c_judgment.proofs.put_judgment.Goals as goal

pub returns-then-head-ne7 : goal.returns-then-head-ne7
returns-then-head-ne7 c = told_misfit _ _ _ c.in-Ok.is c.if-head-ne7.true

pub returns-else-head-ne7 : goal.returns-else-head-ne7
returns-else-head-ne7 c = told_share _ _ _ _ c.in-Ok.is c.if-head-ne7.false c.put_head.ensures

pub returns-in-Err : goal.returns-in-Err
returns-in-Err c = told_fault _ _ _ _ c.in-Err.is c.number.ensures
