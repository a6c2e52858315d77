-- A table that is the list which a rule gives has what the rule gives at every index. That it is that list the checker computes, entry by entry.
use mathlib.Core.Path.{◌≡◌, ap, ◌∙◌}
use mathlib.Core.List.{List, [], ◌∷◌}
use Prim.Native.Nat.{ℕ, zero, suc, ◌+◌, ◌<◌}
use native.Mathlib.Omega.{arith}
use lib.ListN.{get_or}

-- what the rule gives at the n indices from i on
abbrev pub listed : (ℕ → ℕ) → ℕ → ℕ → List ℕ
listed rule i zero = []
listed rule i (suc n) = rule i ∷ listed rule (suc i) n

pub listed_at : (rule : ℕ → ℕ) (i n k : ℕ) → k < n → get_or (listed rule i n) k 0 ≡ rule (i + k)
listed_at rule i zero k h = absurd (omega arith)
listed_at rule i (suc n) zero h = ap rule (omega arith)
listed_at rule i (suc n) (suc k) h = listed_at rule (suc i) n k (omega arith) ∙ ap rule (omega arith)
