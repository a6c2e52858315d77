-- `stands_within` meets its contract: the bytes are tested in the range, and past them there is no test.
use mathlib.Core.Path.{sym}
use Rattle.records.proofs.RangeBytes.{range_past}
use Rattle.kinds.proofs.stands_within.Goals as goal

pub returns-then-bytes-nth : goal.returns-then-bytes-nth
returns-then-bytes-nth c = sym (range_past _ _ _ _ _ c.if-bytes-nth.true)

pub returns : goal.returns
returns c = c.byte_stands.ensures _ c.if-bytes-nth.false
