-- `kept::ids` meets its contract: after v turns the first v ids are there.
use mathlib.Core.Path.{◌≡◌}
use Prim.Native.Nat.{ℕ, ◌+◌, ◌-◌, ◌<◌}
use lib.ListN.{length, get_or}
use Rattle.agreement.specs.Steps.Trying.{kept_rank}
use Rattle.gathering.proofs.kept.ids.Given as goal

abbrev pub invariant-loop-v : goal.invariant-loop-v
invariant-loop-v l = (length l.kept ≡ 16) × ((i : ℕ) → i < l.v → get_or l.kept i 0 ≡ get_or l.all (kept_rank l.without (i + 1) - 1) 0)
