-- `same` meets its contract: the window's three parts are compared one after another.
use Rattle.matching_windows.proofs.Parts.{middle_ends, last_ends}
use Rattle.matching_windows.proofs.same.Goals as goal

pub returns-then-next-back : goal.returns-then-next-back
returns-then-next-back c = middle_ends _ _ _ _ _ _ c.args.front c.args.back c.requires.0.order c.requires.1 _ c.seen-first.ensures c.if-first-front.false _ c.middle-next.ensures c.if-next-back.true

pub returns : goal.returns
returns c = last_ends _ _ _ _ _ _ c.args.front c.args.back c.requires.0.order c.requires.1 _ c.seen-first.ensures c.if-first-front.false _ c.middle-next.ensures c.if-next-back.false _ c.seen.ensures
