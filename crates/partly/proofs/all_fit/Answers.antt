-- `all_fit` meets its contract: every byte that is passed is as it should be, and the first that isn't is told.
use mathlib.Core.Path.{◌≡◌, sym, ◌∙◌}
use native.Mathlib.Omega.{arith}
use borrow.Author.Count.{below_more}
use Rattle.layout.proofs.Judgments.{not_both}
use Rattle.heads.proofs.Answers.{affirmed, refuted}
use Rattle.partly.proofs.all_fit.Goals as goal

pub loop-offset-init : goal.loop-offset-init
loop-offset-init c = (c.head_size-size.ensures, λ p hi. absurd (omega arith))

pub byte_fits-requires : goal.byte_fits-requires
byte_fits-requires c = omega (arith, c.loop-offset.invariant.0)

pub returns-then-not-byte_fits : goal.returns-then-not-byte_fits
returns-then-not-byte_fits c =
    refuted (λ w. not_both _ (w c.loop-offset.offset (omega (arith, c.loop-offset.invariant.0))) (sym c.byte_fits.ensures ∙ c.if-not-byte_fits.true))

pub loop-offset-preserved : goal.loop-offset-preserved
loop-offset-preserved c =
    (c.loop-offset.invariant.0, below_more _ _ c.loop-offset.invariant.1 (sym c.byte_fits.ensures ∙ c.if-not-byte_fits.false))

pub returns : goal.returns
returns c = affirmed (λ p hi. c.loop-offset.invariant.1 p (omega (arith, c.loop-offset.invariant.0)))
