-- `dulvaspen_arriving_judge` meets its contract: 5 comes first, and then the judgment is told.
use Rattle.c_arriving.specs.SoFar.{JudgesWords}
use Rattle.c_arriving.proofs.ToldSoFar.{judged}
use Rattle.c_arriving.proofs.dulvaspen_arriving_judge.Goals as goal

pub returns-then-state-ne-WORDS : goal.returns-then-state-ne-WORDS
returns-then-state-ne-WORDS c = JudgesWords.unfit c.if-state-ne-WORDS.true

pub returns : goal.returns
returns c = judged _ _ c.if-state-ne-WORDS.false c.state_in-so_far.ensures _ _ _ _ c.judge.ensures c.put_judgment.ensures
