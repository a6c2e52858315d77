-- What solving costs (docs/SCHEME.md, 8): the terms of document 01's sum whose letter isn't zero, and all of them.
use Rattle.std.specs.Prelude.{cond, ℕ, ◌+◌, ◌-◌, eqb}
use Rattle.letters.specs.Algebra.{counts, sum}
use Rattle.letters.specs.Places.{inside}
use Rattle.worth.specs.Worth.{worth_of}

-- Which letter of sequence a equation (b,p) takes: letter p + t(b,b) - t(b,a), or 0, which is no place, if it was pushed out to the left.
abbrev pub place : (ℕ → ℕ → ℕ) → ℕ → ℕ → ℕ → ℕ
place t b p a = (p + t b b) - t b a

-- What holds of the other ranks: nothing for a rank and itself.
abbrev pub other : ℕ → ℕ → ℕ → ℕ
other a b m = cond (eqb a b) 0 m

-- Nothing where p is outside 1..n.
abbrev pub within : ℕ → ℕ → ℕ → ℕ
within n p m = cond (inside n p) m 0

-- How many of the equations (b,1) .. (b,n) take a letter of sequence a that lies inside 1..n and isn't zero, where x are the letters of that sequence in the solution.
unfoldable pub terms : ℕ → (ℕ → ℕ → ℕ) → (ℕ → ℕ) → ℕ → ℕ → ℕ
unfolding sum worth_of
terms n t x b a = sum counts n (λ p. within n (place t b p a) (worth_of (x (place t b p a))))

-- The number of terms of solving whose letter, in the solution x, isn't zero: over the ordered pairs a, b from 1..s with a not b.
unfoldable pub additions : ℕ → ℕ → (ℕ → ℕ → ℕ) → (ℕ → ℕ → ℕ) → ℕ
unfolding sum terms
additions s n t x = sum counts s (λ b. sum counts s (λ a. other a b (terms n t (x a) b a)))

-- |x - y|
abbrev pub distance : ℕ → ℕ → ℕ
distance x y = (x - y) + (y - x)

-- The number of all terms, document 01's sum: over the same pairs, max(0, n - |t(b,a) - t(b,b)|).
unfoldable pub cost : ℕ → ℕ → (ℕ → ℕ → ℕ) → ℕ
unfolding sum
cost s n t = sum counts s (λ b. sum counts s (λ a. other a b (n - distance (t b a) (t b b))))
