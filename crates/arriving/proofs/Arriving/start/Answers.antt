-- `Arriving::start` meets its contract: of no bytes none stands, and no number is in.
use mathlib.Core.Path.{refl}
use Rattle.kinds.specs.Kinds.{row_for_kind}
use Rattle.heads.specs.Heads.{head_in}
use Rattle.arriving.specs.States.{up_to, state_of}
use Rattle.arriving.proofs.Arriving.start.Goals as goal

pub returns : goal.returns
unfolding state_of up_to head_in row_for_kind
returns c = refl
