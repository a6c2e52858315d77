-- `partly_in` meets its contract: no number is in, or every number has room and every byte is as it should be.
use Rattle.layout.proofs.Judgments.{not_both}
use Rattle.heads.proofs.FirstBytes.{blank_partly, partly_blank}
use Rattle.heads.proofs.Answers.{refuted}
use Rattle.partly.proofs.partly_in.Goals as goal

pub returns-then-at-eq0 : goal.returns-then-at-eq0
returns-then-at-eq0 c =
    let a = c.args in
    rw c.if-at-eq0.true (λ e. blank_partly a.head (c.blank.ensures.0 e), λ w. c.blank.ensures.1 (partly_blank a.head w))

pub returns-then-not-fits : goal.returns-then-not-fits
returns-then-not-fits c = refuted (λ w. not_both _ (c.fits.ensures.1 w.fits) c.if-not-fits.true)

pub invariant_of-all_fit : goal.invariant_of-all_fit
invariant_of-all_fit c = record { fits = c.fits.ensures.0 c.if-not-fits.false }

pub returns : goal.returns
returns c = (
  λ e. record { fits = c.fits.ensures.0 c.if-not-fits.false; each = c.all_fit.ensures.0 e },
  λ w. c.all_fit.ensures.1 w.each,
)
