-- `dulvaspen_arriving_head` meets its contract: 5 comes first, and then the share that is coming is told.
use Rattle.c_arriving.specs.SoFar.{AnnouncesWords}
use Rattle.c_arriving.proofs.ToldSoFar.{announced}
use Rattle.c_arriving.proofs.dulvaspen_arriving_head.Goals as goal

pub returns-then-state-ne-WORDS : goal.returns-then-state-ne-WORDS
returns-then-state-ne-WORDS c = AnnouncesWords.unfit c.if-state-ne-WORDS.true

pub returns : goal.returns
returns c = announced _ _ c.if-state-ne-WORDS.false c.state_in-so_far.ensures _ _ _ _ _ _ c.coming.ensures c.put_coming.ensures
