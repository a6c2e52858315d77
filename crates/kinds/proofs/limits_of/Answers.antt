-- `limits_of` meets its contract: previews have their own ranges, and all else has those of kind 1.
use Rattle.kinds.specs.Kinds.{row_for_kind}
use Rattle.kinds.proofs.RowLaws.{other_limits}
use Rattle.kinds.proofs.limits_of.Goals as goal

pub returns-then-kind-eq-PREVIEWS : goal.returns-then-kind-eq-PREVIEWS
unfolding row_for_kind
returns-then-kind-eq-PREVIEWS c = rw c.if-kind-eq-PREVIEWS.true

pub returns : goal.returns
returns c = rw c.saturating_sub-most.ensures (other_limits _ _ _ c.if-kind-eq-PREVIEWS.false)
