-- `dulvaspen_read_share` meets its contract: what it tells is what reading finds, and what judging finds where the head has not seven numbers.
use Rattle.c_shares.proofs.Judged.{told_read, told_judged}
use Rattle.c_shares.proofs.dulvaspen_read_share.Goals as goal

pub returns-then-head-ne7 : goal.returns-then-head-ne7
returns-then-head-ne7 c = told_judged c.if-head-ne7.true c.judge.ensures c.put_judgment.ensures

pub returns : goal.returns
returns c = told_read c.if-head-ne7.false c.read.ensures c.put_judgment-2.ensures
