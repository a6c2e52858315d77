-- `text::put_number` meets its contract: the words are put, and after them the fewest digits that hold the number.
use mathlib.Core.Path.{subst}
use Rattle.text.specs.Text.{Put}
use Rattle.text.proofs.Decimals.{spelled}
use Rattle.text.proofs.Putting.{then_put}
use Rattle.text.proofs.put_number.Goals as goal

pub returns-clause-text : goal.returns-clause-text
returns-clause-text c =
    let q = c.put in
    let p = c.put-after in
    let w = c.decimal-count.ensures in
    then_put p.ensures (subst (λ t. Put p.new.line p.result t q.result q.new.line) (spelled _ _ _ c.ranges.n.fits w.len w.digits) q.ensures)
