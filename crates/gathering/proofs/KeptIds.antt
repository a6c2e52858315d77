-- The ids of k ranks at the front of an array, letter by letter.
use native.Mathlib.Omega.{arith}
use mathlib.Core.Path.{◌≡◌, ◌∙◌}
use mathlib.Core.List.{List}
use Prim.Native.Nat.{ℕ, ◌+◌, ◌-◌, ◌≤◌, ◌<◌}
use lib.ListN.{length, get_or, take}
use lib.Seq.{get_or-take, length-take-le}
use Rattle.group.specs.declared.Group.{Group}
use Rattle.sequences.specs.Lists.{ranked}
use Rattle.sequences.proofs.Lists.{is_run}
use Rattle.agreement.specs.Steps.Trying.{kept_rank, kept_ids}

pub kept_front :
    (g : Group) (ids : List ℕ) (b : ℕ) (kept : List ℕ) → g.k ≤ 15 → length kept ≡ 16
    → ((i : ℕ) → i < g.k → get_or kept i 0 ≡ get_or ids (kept_rank b (i + 1) - 1) 0) → take g.k kept ≡ kept_ids g ids (kept_rank b)
unfolding kept_ids ranked
kept_front g ids b kept few long each =
    is_run 0 g.k (λ v. ranked ids (kept_rank b v)) (take g.k kept) (length-take-le g.k kept (omega arith))
    (λ q h. get_or-take g.k kept q 0 h ∙ each q h)
