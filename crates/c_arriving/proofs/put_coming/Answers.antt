-- `put_coming` meets its contract: each case is told as it has to be.
use Rattle.c_arriving.proofs.ToldSoFar.{told_share, told_misfit, told_fault}
use Rattle.c_arriving.proofs.put_coming.Goals as goal

pub returns-then-head-ne7 : goal.returns-then-head-ne7
returns-then-head-ne7 c = told_misfit _ _ _ _ c.in-Ok.is c.if-head-ne7.true

pub returns-else-head-ne7 : goal.returns-else-head-ne7
returns-else-head-ne7 c = told_share _ _ _ _ _ c.in-Ok.is c.if-head-ne7.false c.put_head.ensures

pub returns-in-Err : goal.returns-in-Err
returns-in-Err c = told_fault _ _ _ _ _ c.in-Err.is c.number.ensures
