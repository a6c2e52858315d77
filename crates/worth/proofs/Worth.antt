-- What adding letters is worth: at most one each, and of a run what its parts are worth together.
use mathlib.Core.Path.{◌≡◌, ap, ◌∙◌}
use mathlib.Core.List.{List}
use mathlib.Core.Logic.{⊎_elim}
use Prim.Native.Nat.{ℕ, ◌+◌, ◌-◌, ◌≤◌}
use native.Mathlib.Nat.{zero-add}
use native.Mathlib.Omega.{arith}
use Rattle.std.proofs.Common.{take, drop, length, get_or, get_or-take, get_or-drop, length-take, length-drop}
use borrow.Author.Tests.{eq-eqb, ne_eqb}
use Rattle.letters.specs.Algebra.{counts, sum}
use Rattle.letters.proofs.Cases.{eq_or_ne}
use Rattle.letters.proofs.Sums.{sum_none_terms, sum_more, sum_same, sum_split}
use Rattle.worth.specs.Worth.{worth_of, worth_in}

pub worth_of_zero : (x : ℕ) → x ≡ 0 → worth_of x ≡ 0
unfolding worth_of
worth_of_zero x e = simp (eq-eqb x 0 e)

pub worth_of_one : (x : ℕ) → (x ≡ 0 → ⊥) → worth_of x ≡ 1
unfolding worth_of
worth_of_one x ne = simp (ne_eqb x 0 ne)

pub worth_of_at_most : (x : ℕ) → worth_of x ≤ 1
worth_of_at_most x = ⊎_elim (λ e. omega (arith, worth_of_zero x e)) (λ ne. omega (arith, worth_of_one x ne)) (eq_or_ne x 0)

-- a run by its first letters, one more and in two parts
module _ (xs : List ℕ) (start : ℕ) where
  pub worth_in_none : worth_in xs start 0 ≡ 0
  unfolding worth_in
  worth_in_none = sum_none_terms counts (λ p. worth_of (get_or xs (start + (p - 1)) 0))

  pub worth_in_more : (n : ℕ) → worth_in xs start (n + 1) ≡ worth_in xs start n + worth_of (get_or xs (start + n) 0)
  unfolding worth_in
  worth_in_more n =
      sum_more counts n (λ p. worth_of (get_or xs (start + (p - 1)) 0))
      ∙ ap (λ i. sum counts n (λ p. worth_of (get_or xs (start + (p - 1)) 0)) + worth_of (get_or xs (start + i) 0)) last
    where
      last : n + 1 - 1 ≡ n
      last = omega arith

  pub worth_in_join : (n m : ℕ) → worth_in xs start (n + m) ≡ worth_in xs start n + worth_in xs (start + n) m
  unfolding worth_in
  worth_in_join n m =
      sum_split counts n m (λ p. worth_of (get_or xs (start + (p - 1)) 0))
      ∙ ap (λ k. sum counts n (λ p. worth_of (get_or xs (start + (p - 1)) 0)) + k)
      (sum_same counts m (λ i. worth_of (get_or xs (start + (n + i - 1)) 0)) (λ p. worth_of (get_or xs (start + n + (p - 1)) 0))
      (λ i lo hi. ap (λ j. worth_of (get_or xs j 0)) (place i lo)))
    where
      place : (i : ℕ) → 1 ≤ i → start + (n + i - 1) ≡ start + n + (i - 1)
      place i lo = omega arith

-- a run that is lent as a slice of its own, from index s up to index e, is worth what it is worth where it stands
module _ (xs : List ℕ) (s n e : ℕ) (ends : e ≡ s + n) (inside : e ≤ length xs) where
  pub slice_size : length (take (e - s) (drop s xs)) ≡ n
  slice_size = omega (arith, length-take (e - s) (drop s xs), length-drop s xs)

  pub worth_of_slice : worth_in (take (e - s) (drop s xs)) 0 (length (take (e - s) (drop s xs))) ≡ worth_in xs s n
  unfolding worth_in
  worth_of_slice =
      ap (λ m. sum counts m (λ p. worth_of (get_or (take (e - s) (drop s xs)) (0 + (p - 1)) 0))) slice_size
      ∙ sum_same counts n (λ p. worth_of (get_or (take (e - s) (drop s xs)) (0 + (p - 1)) 0)) (λ p. worth_of (get_or xs (s + (p - 1)) 0))
      (λ p lo hi. ap worth_of (same p lo hi))
    where
      same : (p : ℕ) → 1 ≤ p → p ≤ n → get_or (take (e - s) (drop s xs)) (0 + (p - 1)) 0 ≡ get_or xs (s + (p - 1)) 0
      same p lo hi =
          get_or-take (e - s) (drop s xs) (0 + (p - 1)) 0 (omega arith)
          ∙ get_or-drop s xs (0 + (p - 1)) 0
          ∙ ap (λ i. get_or xs (s + i) 0) (zero-add (p - 1))
