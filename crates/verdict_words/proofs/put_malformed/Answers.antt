-- `put_malformed` meets its contract: two numbers and the end of the line, each put after what stands before it.
use Rattle.text.proofs.Putting.{then_put}
use Rattle.verdict_words.proofs.put_malformed.Goals as goal

pub returns : goal.returns
returns c =
    let what = c.put_number-what in
    let place = c.put_number-place in
    then_put what.ensures.text (then_put place.ensures.text c.put.ensures)
