-- Places count from 1; a letter outside its run counts as zero.
use Rattle.std.specs.Prelude.{Bool, true, false, cond, List, ℕ, ◌+◌, ◌-◌, ltb, leb, get_or}

-- both tests hold
abbrev pub both : Bool → Bool → Bool
both true b = b
both false b = false

-- one of the tests holds
abbrev pub either : Bool → Bool → Bool
either true b = true
either false b = b

-- p is one of 1..n
unfoldable pub inside : ℕ → ℕ → Bool
inside n p = both (ltb 0 p) (leb p n)

-- The letter at place p of the run of n letters that starts at index start of xs: zero where p is outside 1..n.
unfoldable pub letter : {A : Type 0} → A → List A → ℕ → ℕ → ℕ → A
unfolding inside
letter none xs start n p = cond (inside n p) (get_or xs (start + (p - 1)) none) none
