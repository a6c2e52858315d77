-- `dulvaspen_file_letters` meets its contract: it tells the answer of the call behind it.
use Rattle.c_answers.proofs.Told.{tells_of}
use Rattle.c_lengths.proofs.dulvaspen_file_letters.Goals as goal

pub returns : goal.returns
returns c = rw c.of.ensures at (tells_of _ _ _ _ _ _ c.file_letters.ensures c.tell.ensures.0 c.tell.ensures.1)
