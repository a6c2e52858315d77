-- `head_size` meets its contract: the kind and four numbers of a byte, L, and the batch.
use native.Mathlib.Omega.{arith}
use Rattle.kinds.specs.Kinds.{head_size}
use Rattle.kinds.proofs.head_size.Goals as goal

pub returns : goal.returns
unfolding head_size
returns c = omega (arith, c.length_bytes.ensures)
