-- `total` meets its contract: an answer's value is T where nothing is refused, and what is no kind, or serves another L, has no letters.
use mathlib.Core.Path.{sym, ◌∙◌}
use borrow.Author.Tests.{eqb-true}
use Rattle.group.proofs.Refusals.{unwrapped}
use Rattle.kinds.specs.Kinds.{row_for_kind}
use Rattle.kinds.proofs.RowLaws.{unserved, total_chosen, total_none}
use Rattle.kinds.proofs.total.Goals as goal

pub returns-then-serves : goal.returns-then-serves
returns-then-serves c =
    let a = c.args in
    c.unwrap_or.ensures ∙ unwrapped c.packet_letters.result ∙ c.packet_letters.ensures.valued ∙ total_chosen a.kind a.g a.node (eqb-true _ _ (sym c.serves.ensures ∙ c.if-serves.true))

pub returns-then-kind-eq-PREVIEWS : goal.returns-then-kind-eq-PREVIEWS
unfolding row_for_kind
returns-then-kind-eq-PREVIEWS c = rw c.if-kind-eq-PREVIEWS.true (c.unwrap_or-then-kind-eq-PREVIEWS.ensures ∙ unwrapped c.packet_letters-then-kind-eq-PREVIEWS.result ∙ c.packet_letters-then-kind-eq-PREVIEWS.ensures.valued)

pub returns : goal.returns
returns c =
    let a = c.args in
    sym (total_none a.kind a.g a.node (unserved _ a.kind a.g.l c.serves.ensures c.if-serves.false) c.if-kind-eq-PREVIEWS.false)
