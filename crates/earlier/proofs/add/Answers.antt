-- `add` meets its contract: whichever side the letters lie on, one of two functions adds them.
use Rattle.adding_after.proofs.Downward.{added_laid}
use Rattle.earlier.proofs.add.Goals as goal

pub returns-else-from-to : goal.returns-else-from-to
returns-else-from-to c =
    let a = c.args in
    let pre = c.requires in
    added_laid a.part.now _ a.to a.from a.count pre.0 pre.1 c.add_within.ensures.letters
