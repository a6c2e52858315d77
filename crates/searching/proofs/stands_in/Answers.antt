-- `stands_in` meets its contract: record 0 is the head, and the others count from 1.
use mathlib.Core.Path.{sym, ◌∙◌}
use Rattle.records.specs.Steps.Places.{stands_in}
use Rattle.records.proofs.Places.{stands_past_head}
use Rattle.searching.proofs.stands_in.Goals as goal

pub returns-then-nth-eq0 : goal.returns-then-nth-eq0
unfolding stands_in
returns-then-nth-eq0 c = rw c.if-nth-eq0.true c.head_stands.ensures

pub returns : goal.returns
returns c = c.record_stands.ensures ∙ sym (stands_past_head _ _ _ _ _ c.if-nth-eq0.false)
