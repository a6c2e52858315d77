-- `partly::byte_fits` meets its contract: the test is the definition's own.
use mathlib.Core.Path.{sym, ap, ◌∙◌}
use lib.Dec.{eqb}
use borrow.Author.Tests.{lt-ltb, le-ltb}
use Rattle.partly.proofs.byte_fits.Goals as goal

pub returns-then-offset-at : goal.returns-then-offset-at
returns-then-offset-at c = c.head_stands.ensures ∙ sym (simp (lt-ltb _ _ c.if-offset-at.true))

pub returns : goal.returns
returns c = ap (λ b. eqb b 0) c.byte.ensures ∙ sym (simp (le-ltb _ _ c.if-offset-at.false))
