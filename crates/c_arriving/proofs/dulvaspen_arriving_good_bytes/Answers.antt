-- `dulvaspen_arriving_good_bytes` meets its contract: 5 comes first.
use Rattle.c_arriving.specs.SoFar.{CountsWords}
use Rattle.c_arriving.proofs.ToldSoFar.{counted}
use Rattle.c_arriving.proofs.dulvaspen_arriving_good_bytes.Goals as goal

pub returns-then-state-ne-WORDS : goal.returns-then-state-ne-WORDS
returns-then-state-ne-WORDS c = CountsWords.unfit c.if-state-ne-WORDS.true

pub returns : goal.returns
returns c = counted _ _ c.if-state-ne-WORDS.false c.state_in-so_far.ensures _ _ c.good_bytes.ensures
