-- `writing::fill` meets its contract: the four parts are laid one after another, and no byte is left.
use Rattle.share.proofs.Written.{laid_share}
use Rattle.share.proofs.writing.fill.Goals as goal

pub returns : goal.returns
returns c =
    let s = c in
    laid_share s.args.of.head s.args.packets.now _ c.head_size-front.ensures s.args.share.now _ _ _ _ s.requires.1 c.put.ensures c.put_full_blocks.ensures c.put_last_block.ensures c.put_end.ensures
