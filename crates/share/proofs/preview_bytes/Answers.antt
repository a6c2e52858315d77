-- `share::preview_bytes` meets its contract: the row of kind 5 has these refusals.
use Rattle.kinds.specs.Kinds.{row_for_kind}
use Rattle.share.proofs.preview_bytes.Goals as goal

pub returns : goal.returns
unfolding row_for_kind
returns c = c.bytes_of.ensures
