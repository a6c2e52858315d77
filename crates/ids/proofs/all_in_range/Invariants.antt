-- After so many ids, what is left of them decides.
use mathlib.Core.Path.{◌≡◌}
use lib.ListN.{drop}
use Rattle.ids.specs.Ids.{all_in_range}
use Rattle.ids.proofs.all_in_range.Given as goal

abbrev pub invariant-loop-id : goal.invariant-loop-id
invariant-loop-id l = all_in_range l.n l.ids ≡ all_in_range l.n (drop l.id-index l.ids)
