-- `read` meets its contract: what judging refuses is refused, whatever the buffer, and a share is read.
use Rattle.group.proofs.Refusals.{handed_on}
use Rattle.judging.proofs.Verdicts.{found_share}
use Rattle.reading.proofs.Verdicts.{found_fault}
use Rattle.reading.proofs.read.Goals as goal

pub fitting-requires : goal.fitting-requires
fitting-requires c = found_share c.in_ok-head.ensures

pub returns-in_err-head : goal.returns-in_err-head
returns-in_err-head c = rw (handed_on c.from_residual.result _ c.from_residual.ensures.1) (found_fault _ _ c.in_err-head.ensures)
