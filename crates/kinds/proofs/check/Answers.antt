-- `check` meets its contract: the kind that serves an L has the node's refusals, previews have their own, and all else is refused.
use mathlib.Core.Path.{sym, ap, ◌∙◌}
use native.Mathlib.Omega.{arith}
use borrow.Author.Tests.{eqb-true, ne_eqb}
use Rattle.kinds.specs.Kinds.{row_for_kind}
use Rattle.kinds.proofs.RowLaws.{unserved, chosen_refusal, packets_other}
use Rattle.kinds.proofs.check.Goals as goal

pub returns-then-serves : goal.returns-then-serves
returns-then-serves c =
    let a = c.args in
    c.node.ensures ∙ sym (chosen_refusal a.g a.node) ∙ sym (ap (λ kind. (row_for_kind kind).refusal a.g a.node) (eqb-true _ _ (sym c.serves.ensures ∙ c.if-serves.true)))

pub returns-in-5 : goal.returns-in-5
unfolding row_for_kind
returns-in-5 c = rw c.in-5.is c.node-in-5.ensures

pub returns-in-1 : goal.returns-in-1
unfolding row_for_kind
returns-in-1 c =
    let a = c.args in
    rw c.in-1.is (sym (packets_other 1 a.g a.node (λ e. unserved _ a.kind a.g.l c.serves.ensures c.if-serves.false (c.in-1.is ∙ e))))

pub returns-in-6 : goal.returns-in-6
unfolding row_for_kind
returns-in-6 c =
    let a = c.args in
    rw c.in-6.is (sym (packets_other 6 a.g a.node (λ e. unserved _ a.kind a.g.l c.serves.ensures c.if-serves.false (c.in-6.is ∙ e))))

pub returns-in_default : goal.returns-in_default
unfolding row_for_kind
returns-in_default c =
    let kind = c.args.kind in
    simp (ne_eqb kind 1 (λ e. omega arith), ne_eqb kind 5 (λ e. omega arith), ne_eqb kind 6 (λ e. omega arith))
