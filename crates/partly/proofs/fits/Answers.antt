-- `partly::fits` meets its contract: each number is tested, and the batch number has four bytes by its type.
use native.Mathlib.Omega.{arith}
use Rattle.heads.proofs.Answers.{refuted}
use Rattle.partly.proofs.fits.Goals as goal

pub returns-then-head-gt255 : goal.returns-then-head-gt255
returns-then-head-gt255 c = refuted (λ w. omega (arith, w.kind))

pub returns-then-g-gt255 : goal.returns-then-g-gt255
returns-then-g-gt255 c = refuted (λ w. omega (arith, w.n))

pub returns-then-g-gt255-2 : goal.returns-then-g-gt255-2
returns-then-g-gt255-2 c = refuted (λ w. omega (arith, w.k))

pub returns-then-g-gt255-3 : goal.returns-then-g-gt255-3
returns-then-g-gt255-3 c = refuted (λ w. omega (arith, w.d))

pub returns-then-head-gt255-2 : goal.returns-then-head-gt255-2
returns-then-head-gt255-2 c = refuted (λ w. omega (arith, w.node))

pub returns : goal.returns
returns c =
    let same = c.length_bytes.ensures.0 in (
      λ e. record { kind = omega arith; n = omega arith; k = omega arith; d = omega arith; node = omega arith; l = rw same at (c.has_room.ensures.0 e); batch = omega arith },
      λ w. c.has_room.ensures.1 (rw same w.l),
    )
