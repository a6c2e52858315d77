-- `reaching::within` meets its contract: the tests are the definition's own.
use mathlib.Core.Path.{sym, ap, subst, ◌∙◌}
use Prim.Native.Nat.{◌≤◌}
use native.Mathlib.Omega.{arith}
use borrow.Author.Tests.{leb-true, le-leb}
use Rattle.records.specs.Records.{size_for}
use Rattle.kinds.proofs.RowLaws.{size_small}
use Rattle.heads.proofs.Answers.{refuted}
use Rattle.reaching.proofs.within.Goals as goal

pub returns-then-letters-eq0 : goal.returns-then-letters-eq0
returns-then-letters-eq0 c = refuted (λ w. w.some c.if-letters-eq0.true)

pub size_for-requires : goal.size_for-requires
size_for-requires c = (omega (arith, c.head_size.ensures, size_small c.args.kind), c.requires)

pub returns : goal.returns
returns c =
    let s = c in
    let size = c.size_for.ensures ∙ ap (λ f. size_for f s.args.letters) c.head_size.ensures in (
      λ e. record { some = c.if-letters-eq0.false; share = subst (λ n. s.args.at ≤ n) size (leb-true _ _ e) },
      λ w. le-leb _ _ (subst (λ n. s.args.at ≤ n) (sym size) w.share),
    )
