-- `put_group` meets its contract: three numbers, each put after the one before it.
use Rattle.text.proofs.Putting.{then_put}
use Rattle.verdict_words.proofs.put_group.Goals as goal

pub returns-clause-text : goal.returns-clause-text
returns-clause-text c = then_put c.put_number-n.ensures.text (then_put c.put_number-k.ensures.text c.put_number.ensures.text)
