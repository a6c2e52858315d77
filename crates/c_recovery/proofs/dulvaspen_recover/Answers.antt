-- `dulvaspen_recover` meets its contract: it tells the answer of the call behind it.
use Rattle.c_answers.proofs.Told.{solves_told_of}
use Rattle.c_recovery.proofs.dulvaspen_recover.Goals as goal

pub returns : goal.returns
returns c = rw c.of.ensures at (solves_told_of _ _ _ _ _ _ _ _ _ c.recover.ensures c.tell.ensures.0 c.tell.ensures.1)
