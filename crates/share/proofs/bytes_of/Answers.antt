-- `share::bytes_of` meets its contract: a refusal is passed on, and where there is none the node's letters tell its share's size.
use mathlib.Core.Path.{ap₂, ◌∙◌}
use native.Mathlib.Omega.{arith}
use Rattle.group.proofs.Refusals.{handed_on, stopped, fine, refuses, gives}
use Rattle.records.specs.Records.{size_for}
use Rattle.kinds.proofs.RowLaws.{size_small, row_small, total_fine}
use Rattle.share.specs.Calls.{kind_bytes}
use Rattle.share.proofs.bytes_of.Goals as goal

pub size_for-requires : goal.size_for-requires
size_for-requires c =
    let a = c.args in
    (omega (arith, c.head_size.ensures, size_small a.kind), omega (arith, c.total-letters.ensures, row_small a.kind a.g a.node))

pub returns-in_err-check : goal.returns-in_err-check
returns-in_err-check c = rw (handed_on c.from_residual.result _ c.from_residual.ensures.1) (refuses _ _ _ (stopped _ _ _ c.in_err-check.was c.check.ensures))

pub returns : goal.returns
unfolding kind_bytes
returns c =
    let a = c.args in
    let none = fine _ _ c.in_ok-check.was c.check.ensures in
    gives _ _ _ none (c.size_for.ensures ∙ ap₂ size_for c.head_size.ensures (c.total-letters.ensures ∙ total_fine a.kind a.g a.node none))
