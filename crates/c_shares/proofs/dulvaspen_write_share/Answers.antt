-- `dulvaspen_write_share` meets its contract: it returns the number of the call behind it, which fills the buffer.
use Rattle.c_shares.proofs.Told.{wrote_of}
use Rattle.c_shares.proofs.dulvaspen_write_share.Goals as goal

pub returns : goal.returns
returns c = rw c.of-g.ensures at (wrote_of _ _ _ _ _ _ _ c.write.ensures c.answer_number.ensures)
