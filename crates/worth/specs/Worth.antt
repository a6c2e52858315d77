-- What an addition is worth in a count: adding a zero changes nothing, so it counts for nothing.
use Rattle.std.specs.Prelude.{◌≡◌, cond, List, ℕ, ◌+◌, ◌-◌, ◌<◌, eqb, length, get_or}
use Rattle.letters.specs.Algebra.{counts, sum}

-- adding one letter counts as one, unless it is zero
unfoldable pub worth_of : ℕ → ℕ
worth_of x = cond (eqb x 0) 0 1

-- adding a run counts as its letters do: how many of the n letters of xs from index start on aren't zero
unfoldable pub worth_in : List ℕ → ℕ → ℕ → ℕ
unfolding sum worth_of
worth_in xs start n = sum counts n (λ p. worth_of (get_or xs (start + (p - 1)) 0))

-- no letter of the list is zero
pub record NoZero (xs : List ℕ) : Type 0 where
  pub each : (i : ℕ) → i < length xs → get_or xs i 0 ≡ 0 → ⊥
