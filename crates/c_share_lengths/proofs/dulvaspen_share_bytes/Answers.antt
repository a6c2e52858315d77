-- `dulvaspen_share_bytes` meets its contract: it tells the answer of the call behind it.
use Rattle.c_answers.proofs.Told.{tells_of}
use Rattle.c_share_lengths.proofs.dulvaspen_share_bytes.Goals as goal

pub returns : goal.returns
returns c = rw c.of-g.ensures at (tells_of _ _ _ _ _ _ c.share_bytes.ensures c.tell.ensures.0 c.tell.ensures.1)
