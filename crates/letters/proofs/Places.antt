-- What the letter at a place is: inside its run, outside, and after a store. Nothing else opens the definition.
use mathlib.Core.Path.{◌≡◌, refl, sym, ap, ◌∙◌}
use mathlib.Core.Bool.{Bool, true, false}
use mathlib.Core.List.{List, []}
use mathlib.Core.Logic.{◌⊎◌, inl, inr, ⊎_elim}
use Prim.Native.Nat.{ℕ, ◌+◌, ◌-◌, ◌≤◌, ◌<◌}
use native.Mathlib.Nat.{zero-add}
use native.Mathlib.Omega.{arith}
use lib.ListN.{length, get_or, take, drop, length-drop, get_or-eq_default}
use lib.Seq.{get_or-drop, get_or-take, length-take-le}
use borrow.Author.Tests.{lt-ltb, le-ltb, le-leb, lt-leb}
use Rattle.letters.specs.Places.{both, inside, letter}
use Rattle.letters.proofs.Cases.{le_or_lt}

pub inside_true : (n p : ℕ) → 1 ≤ p → p ≤ n → inside n p ≡ true
unfolding inside
inside_true n p lo hi = simp (lt-ltb 0 p lo, le-leb p n hi)

pub inside_below : (n p : ℕ) → p ≡ 0 → inside n p ≡ false
unfolding inside
inside_below n p e = simp (le-ltb 0 p (omega arith))

pub both_no : (b : Bool) → both b false ≡ false
both_no true = refl
both_no false = refl

pub inside_above : (n p : ℕ) → n < p → inside n p ≡ false
unfolding inside
inside_above n p h = simp (lt-leb p n h, both_no)

-- p is inside 1..n, or 0, or above n
pub place_cases : (n p : ℕ) → ((1 ≤ p) × (p ≤ n)) ⊎ ((p ≡ 0) ⊎ (n < p))
place_cases n p =
    ⊎_elim (λ z. inr (inl (omega arith))) (λ lo. ⊎_elim (λ hi. inl (lo, hi)) (λ above. inr (inr above)) (le_or_lt p n)) (le_or_lt p 0)

module _ {A : Type 0} (none : A) (xs : List A) (start n p : ℕ) where
  pub letter_inside : 1 ≤ p → p ≤ n → letter none xs start n p ≡ get_or xs (start + (p - 1)) none
  unfolding letter
  letter_inside lo hi = simp (inside_true n p lo hi)

  pub letter_zero : p ≡ 0 → letter none xs start n p ≡ none
  unfolding letter
  letter_zero e = simp (inside_below n p e)

  pub letter_above : n < p → letter none xs start n p ≡ none
  unfolding letter
  letter_above h = simp (inside_above n p h)

-- two runs of one length that have the same letters have the same letter at every place
pub letter_same :
    {A : Type 0} (none : A) (xs ys : List A) (a b n p : ℕ)
    → ((q : ℕ) → q < n → get_or xs (a + q) none ≡ get_or ys (b + q) none)
    → letter none xs a n p ≡ letter none ys b n p
unfolding letter
letter_same none xs ys a b n p h =
    ⊎_elim (λ w. simp (inside_true n p w.0 w.1) (h (p - 1) (omega arith)))
    (λ out. ⊎_elim (λ z. simp (inside_below n p z)) (λ above. simp (inside_above n p above)) out) (place_cases n p)

-- of a whole list: the letter at place q + 1 is the element at index q
pub letter_of_all :
    {A : Type 0} (none : A) (xs : List A) (q p : ℕ) → p ≡ q + 1 → letter none xs 0 (length xs) p ≡ get_or xs q none
letter_of_all none xs q p e =
    ⊎_elim
    (λ h.
    letter_inside none xs 0 (length xs) p (omega arith) (omega arith)
    ∙ ap (λ i. get_or xs i none) (index q p e))
    (λ h. letter_above none xs 0 (length xs) p (omega arith) ∙ sym (get_or-eq_default xs none (omega arith)))
    (le_or_lt (q + 1) (length xs))
  where
    index : (q p : ℕ) → p ≡ q + 1 → 0 + (p - 1) ≡ q
    index q p e = omega arith

-- of no letters
pub letter_of_nothing : {A : Type 0} (none : A) (p : ℕ) → letter none [] 0 0 p ≡ none
letter_of_nothing none p =
    ⊎_elim (λ w. absurd (omega arith)) (λ out. ⊎_elim (λ z. letter_zero none [] 0 0 p z) (λ a. letter_above none [] 0 0 p a) out)
    (place_cases 0 p)

-- a part of a list has the letters of the list from its start on
pub letter_of_part :
    {A : Type 0} (none : A) (xs : List A) (start n p : ℕ) → start + n ≤ length xs
    → letter none (take n (drop start xs)) 0 (length (take n (drop start xs))) p ≡ letter none xs start n p
letter_of_part none xs start n p fits =
    ap (λ m. letter none (take n (drop start xs)) 0 m p) long
    ∙ letter_same none (take n (drop start xs)) xs 0 start n p
    (λ q h. get_or-take n (drop start xs) (0 + q) none (omega arith) ∙ get_or-drop start xs (0 + q) none ∙ ap (λ i. get_or xs (start + i) none) (zero-add q))
  where
    long : length (take n (drop start xs)) ≡ n
    long = length-take-le n (drop start xs) (rw length-drop (omega arith))
