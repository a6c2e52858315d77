-- `bytes::head_in` meets its contract: its first byte tells the kind, and that how many bytes L has.
use Rattle.heads.proofs.bytes.head_in.Goals as goal

pub returns-then-wide-eq4 : goal.returns-then-wide-eq4
returns-then-wide-eq4 c = c.head_of.ensures

pub returns : goal.returns
returns c = c.head_of-2.ensures
