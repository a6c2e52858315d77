-- `standing::block_stands` meets its contract: the tests are the definition's own, at an offset of 0 and past it.
use mathlib.Core.Path.{sym, ap, ◌∙◌}
use borrow.Author.Tests.{lt-ltb, le-ltb}
use Rattle.records.proofs.Places.{block_first, block_later}
use lib.Dec.{eqb}
use Rattle.record_bytes.proofs.block_stands.Goals as goal

pub returns-then-offset-eq0 : goal.returns-then-offset-eq0
returns-then-offset-eq0 c = ap (eqb _) c.block_kind.ensures ∙ sym (block_first _ _ _ _ c.if-offset-eq0.true)

pub returns-then-r-offset : goal.returns-then-r-offset
returns-then-r-offset c = sym (block_later _ _ _ _ c.if-offset-eq0.false ∙ simp (lt-ltb _ _ c.if-r-offset.true))

pub returns : goal.returns
returns c = sym (block_later _ _ _ _ c.if-offset-eq0.false ∙ simp (le-ltb _ _ c.if-r-offset.false))
