-- `equation::place::shift_in` meets its contract: the entry is where the definition looks.
use mathlib.Core.Path.{refl}
use Rattle.equation.specs.Rows.{shift_in}
use Rattle.equation.proofs.place.shift_in.Goals as goal

pub returns : goal.returns
unfolding shift_in
returns c = refl
