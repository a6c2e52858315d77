-- `judged` meets its contract: the tests are the definition's own, with the size that the head's kind has.
use mathlib.Core.Path.{sym, ap, ◌∙◌}
use native.Mathlib.Omega.{arith}
use borrow.Author.Tests.{lt-ltb, le-ltb, eq-eqb, ne_eqb}
use Rattle.kinds.proofs.RowLaws.{size_small}
use Rattle.std.specs.Prelude.{Ok, Err}
use Rattle.judging.specs.declared.Fault.{Fault}
use Rattle.judging.specs.Judging.{Judgment}
use Rattle.judging.specs.Steps.Judged.{judgment_at}
use Rattle.judging.proofs.judged.Goals as goal

pub refusal_at-requires : goal.refusal_at-requires
refusal_at-requires c =
    let s = c in (omega (arith, c.head_size-front.ensures, size_small s.args.head.kind), omega arith)

pub returns-then-at-count : goal.returns-then-at-count
returns-then-at-count c =
    let s = c in
    let a = s.args in
    ap (λ r. Err (Fault.Malformed r a.at)) c.refusal_at.ensures
    ∙ sym (simp (lt-ltb _ _ c.if-at-count.true))
    ∙ ap (λ f. judgment_at f a.head a.letters a.at a.count) c.head_size-front.ensures

pub bytes_to_see-requires : goal.bytes_to_see-requires
bytes_to_see-requires c =
    let s = c in (omega (arith, c.head_size-front.ensures, size_small s.args.head.kind), omega arith)

pub returns-then-count-bytes_to_see : goal.returns-then-count-bytes_to_see
returns-then-count-bytes_to_see c =
    let a = c.args in
    sym (simp (le-ltb _ _ c.if-at-count.false, eq-eqb _ _ (c.if-count-bytes_to_see.true ∙ c.bytes_to_see.ensures)))
    ∙ ap (λ f. judgment_at f a.head a.letters a.at a.count) c.head_size-front.ensures

pub returns : goal.returns
returns c =
    let a = c.args in
    sym (simp (le-ltb _ _ c.if-at-count.false, ne_eqb _ _ (λ e. c.if-count-bytes_to_see.false (e ∙ sym c.bytes_to_see.ensures))))
    ∙ ap (λ f. judgment_at f a.head a.letters a.at a.count) c.head_size-front.ensures
