-- `dulvaspen_encode` meets its contract: it returns the number of the call behind it, which fills the buffer.
use Rattle.c_answers.proofs.Told.{fills_of}
use Rattle.c_packets.proofs.dulvaspen_encode.Goals as goal

pub returns : goal.returns
returns c = rw c.of-g.ensures at (fills_of _ _ _ _ _ _ _ c.encode.ensures c.answer_number.ensures)
