-- `preview_shift` meets its contract: the previews' rule is that of the node after.
use mathlib.Core.Path.{◌∙◌}
use Rattle.shifts.proofs.Rule.{preview_next}
use Rattle.shifts.proofs.preview_shift.Goals as goal

pub returns : goal.returns
returns c =
    let a = c.args in (c.product.ensures.0 ∙ preview_next a.node a.column, c.product.ensures.1)
