-- An array of numbers that is filled from its front on, as the starts of runs are.
use mathlib.Core.Path.{◌≡◌, ◌∙◌}
use mathlib.Core.List.{List}
use Prim.Native.Nat.{ℕ, ◌+◌, ◌<◌}
use native.Mathlib.Omega.{arith}
use lib.ListN.{length, get_or, set}
use lib.Seq.{get_or-set_same, get_or-set_other}
use borrow.Author.Count.{below_more}

-- one number more
pub filled_more :
    (xs : List ℕ) (i x : ℕ) (f : ℕ → ℕ) → i < length xs → ((j : ℕ) → j < i → get_or xs j 0 ≡ f j) → x ≡ f i
    → (j : ℕ) → j < i + 1 → get_or (set xs i x) j 0 ≡ f j
filled_more xs i x f h filled e =
    below_more (λ (j : ℕ). get_or (set xs i x) j 0 ≡ f j) i (λ j l. get_or-set_other xs i j x 0 (λ same. omega arith) ∙ filled j l)
    (get_or-set_same xs i x 0 h ∙ e)
