-- `tell` meets its contract: it tells what the call behind it reports.
use mathlib.Core.Path.{refl}
use Rattle.c_odd.proofs.Names.{behind_fine, report_long, told_of}
use Rattle.c_odd.proofs.tell.Goals as goal

pub put-requires : goal.put-requires
put-requires c = report_long _ _ _ _ _ c.requires

pub returns : goal.returns
returns c = (refl, told_of _ _ _ _ _ _ c.find-found.result (behind_fine _ _ _ _ _ c.requires) c.find-found.ensures c.put.ensures)
