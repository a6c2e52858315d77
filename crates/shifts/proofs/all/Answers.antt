-- `shifts::all` meets its contract: the checker computes the test over all 256 entries to true, and one law carries it to each.
use mathlib.Core.Path.{refl}
use Rattle.shifts.specs.Rule.{t}
use Rattle.shifts.specs.Table.{products_from, is_table}
use Rattle.shifts.proofs.Tested.{tested}
use Rattle.shifts.proofs.all.Goals as goal

pub returns : goal.returns
unfolding is_table products_from t
returns c = tested _ refl
