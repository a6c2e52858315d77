-- `strictly_falling` meets its contract: at i, the ids from the one before i on decide.
use mathlib.Core.Path.{◌≡◌}
use Prim.Native.Nat.{◌-◌}
use lib.ListN.{drop}
use Rattle.ids.specs.Ids.{falling}
use Rattle.ids.proofs.strictly_falling.Given as goal

abbrev pub invariant-loop-i : goal.invariant-loop-i
invariant-loop-i l = falling l.ids ≡ falling (drop (l.i - 1) l.ids)
