-- `record_bytes::record_stands` meets its contract: the tests are the definition's own.
use Rattle.records.proofs.Places.{record_block, record_end, record_none}
use mathlib.Core.Path.{sym, ◌∙◌}
use Rattle.record_bytes.proofs.record_stands.Goals as goal

pub returns-then-r-blocks : goal.returns-then-r-blocks
returns-then-r-blocks c = c.block_stands.ensures ∙ sym (record_block _ _ _ _ _ c.blocks_of-blocks.ensures c.if-r-blocks.true)

pub returns-then-r-blocks-2 : goal.returns-then-r-blocks-2
returns-then-r-blocks-2 c = c.end_stands.ensures ∙ sym (record_end _ _ _ _ _ c.blocks_of-blocks.ensures c.if-r-blocks-2.true)

pub returns : goal.returns
returns c =
    let a = c.args in
    sym (record_none _ _ a.offset a.byte _ c.blocks_of-blocks.ensures c.if-r-blocks.false c.if-r-blocks-2.false)
