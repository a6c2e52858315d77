-- `Column::starts` meets its contract: after every turn one start more stands in the list, and `start` is the next one.
use native.Mathlib.Omega.{arith}
use mathlib.Core.Path.{refl, ◌∙◌}
use Rattle.matrix.proofs.EntryStarts.{first_start}
use Rattle.matrix.proofs.entries.Column.starts.Goals as goal

pub loop-row-init : goal.loop-row-init
loop-row-init c = (refl, c.free_start-start.ensures.0 ∙ first_start _ _ (omega arith), λ i h. absurd (omega arith))
