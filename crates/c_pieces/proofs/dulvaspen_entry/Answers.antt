-- `dulvaspen_entry` meets its contract: it tells the answer of the call behind it.
use Rattle.c_answers.proofs.Told.{tells_of}
use Rattle.c_pieces.proofs.dulvaspen_entry.Goals as goal

pub returns : goal.returns
returns c = rw c.of-g.ensures at (tells_of _ _ _ _ _ _ c.entry.ensures c.tell.ensures.0 c.tell.ensures.1)
