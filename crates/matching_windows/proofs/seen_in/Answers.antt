-- `seen_in` meets its contract: the block holds the sum, and is compared, all of it at once and, where that fails, letter by letter.
use Rattle.matching_windows.proofs.Parts.{held_sum, held_sum_all}
use Rattle.matching_windows.proofs.seen_in.Goals as goal

pub returns-then-equal : goal.returns-then-equal
returns-then-equal c = held_sum_all _ _ _ _ _ _ _ _ _ c.add_each.ensures c.requires.0 (c.equal.ensures c.if-equal.true)

pub returns : goal.returns
returns c = held_sum _ _ _ _ _ _ _ _ _ _ c.add_each.ensures c.requires.0 c.same_as.ensures
