-- `put_complete` meets its contract: the group, then four numbers by name and the end of the line, each put after what stands before it.
use Rattle.text.proofs.Putting.{then_put}
use Rattle.verdict_words.proofs.put_complete.Goals as goal

pub returns : goal.returns
returns c =
    then_put
    c.put_group-group.ensures.text
    (then_put
    c.put_number-node.ensures.text
    (then_put
    c.put_number-length.ensures.text
    (then_put
    c.put_number-batch.ensures.text
    (then_put
    c.put_number-end.ensures.text
    c.put.ensures))))
