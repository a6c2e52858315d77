-- `share::share_bytes` meets its contract: the kind that serves an L has the node's refusals.
use mathlib.Core.Path.{subst}
use Rattle.group.specs.Answers.{Answers}
use Rattle.kinds.specs.Kinds.{row_for_kind}
use Rattle.kinds.proofs.RowLaws.{chosen_refusal}
use Rattle.share.specs.Calls.{kind_bytes, share_bytes}
use Rattle.share.proofs.share_bytes.Goals as goal

pub returns : goal.returns
returns c =
    let a = c.args in
    subst (λ q. Answers c.bytes_of.result q (share_bytes a.g a.node)) (chosen_refusal a.g a.node)
    (subst (λ kind. Answers c.bytes_of.result ((row_for_kind kind).refusal a.g a.node) (kind_bytes kind a.g a.node)) c.for_length.ensures c.bytes_of.ensures)
