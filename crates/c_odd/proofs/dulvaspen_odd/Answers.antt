-- `dulvaspen_odd` meets its contract: a refused call returns its number, and another one tells.
use Rattle.group.proofs.Refusals.{fine, stopped}
use Rattle.c_odd.proofs.Names.{refused_for, told_for}
use Rattle.c_odd.proofs.dulvaspen_odd.Goals as goal

pub tell-requires : goal.tell-requires
tell-requires c = fine _ _ c.in-Ok.is c.check.ensures

pub returns-in-Err : goal.returns-in-Err
returns-in-Err c = refused_for _ _ c.of-g.ensures _ _ _ _ c.in-Err.refusal _ (stopped _ _ _ c.in-Err.is c.check.ensures) c.refusal_number.ensures

pub returns-in-Ok : goal.returns-in-Ok
returns-in-Ok c = told_for _ _ c.of-g.ensures c.args.ids.now c.args.packets.now c.args.file.now c.args.report.now _ _ _ (fine _ _ c.in-Ok.is c.check.ensures) c.tell.ensures
