-- Every byte that is passed is as it should be.
use mathlib.Core.Path.{◌≡◌}
use mathlib.Core.Bool.{true}
use Prim.Native.Nat.{ℕ, ◌<◌}
use Rattle.kinds.specs.Kinds.{head_size}
use Rattle.heads.specs.Steps.Partly.{partly_at}
use Rattle.partly.proofs.all_fit.Given as goal

abbrev pub invariant-loop-offset : goal.invariant-loop-offset
invariant-loop-offset l = (l.size ≡ head_size l.of.head.kind) × ((p : ℕ) → p < l.offset → partly_at l.of.head l.at p ≡ true)
