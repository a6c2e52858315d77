-- The terms of one pair: an equation takes all letters of a sequence but those that are moved out of it, which are its first or its last.
use mathlib.Core.Path.{◌≡◌, sym, ap, ap₂, ◌∙◌}
use Prim.Native.Nat.{ℕ, ◌+◌, ◌-◌, ◌≤◌}
use native.Mathlib.Nat.{add_comm, zero-add, add-zero}
use native.Mathlib.Omega.{arith}
use Rattle.letters.specs.Algebra.{counts, sum}
use Rattle.letters.proofs.Sums.{sum_same, sum_none, sum_split}
use Rattle.worth.specs.Worth.{worth_of}
use Rattle.system.proofs.Within.{within_inside, within_below, within_above}
use Rattle.system.specs.Count.{terms, additions, place, other, within}

module _ (n c : ℕ) (h : c ≤ n) (f : ℕ → ℕ) where
  -- n letters by the first c of them, and by the last
  first_apart : sum counts n f ≡ sum counts c f + sum counts (n - c) (λ i. f (c + i))
  first_apart = ap (λ m. sum counts m f) size ∙ sum_split counts c (n - c) f
    where
      size : n ≡ c + (n - c)
      size = omega arith

  last_apart : sum counts n f ≡ sum counts (n - c) f + sum counts c (λ i. f (n - c + i))
  last_apart = ap (λ m. sum counts m f) size ∙ sum_split counts (n - c) c f
    where
      size : n ≡ n - c + c
      size = omega arith

  -- moved right by c, the first c are taken by none
  pub all_but_first : sum counts n (λ p. within n (p + c) (f (p + c))) + sum counts c f ≡ sum counts n f
  all_but_first =
      ap (λ m. m + sum counts c f)
      (ap (λ m. sum counts m (λ p. within n (p + c) (f (p + c)))) size
      ∙ sum_split counts (n - c) c (λ p. within n (p + c) (f (p + c)))
      ∙ ap₂ ◌+◌
      (sum_same counts (n - c) (λ p. within n (p + c) (f (p + c))) (λ i. f (c + i)) (λ p lo hi. within_inside n (p + c) (f (p + c)) (omega arith) (omega arith) ∙ ap f (turned p)))
      (sum_none counts c (λ i. within n (n - c + i + c) (f (n - c + i + c))) (λ i lo hi. within_above n (n - c + i + c) (f (n - c + i + c)) (omega arith)))
      ∙ add-zero (sum counts (n - c) (λ i. f (c + i))))
      ∙ add_comm (sum counts (n - c) (λ i. f (c + i))) (sum counts c f)
      ∙ sym first_apart
    where
      size : n ≡ n - c + c
      size = omega arith

      turned : (p : ℕ) → p + c ≡ c + p
      turned p = omega arith

  -- moved left by c, the last c
  pub all_but_last : sum counts n (λ p. within n (p - c) (f (p - c))) + sum counts c (λ i. f (n - c + i)) ≡ sum counts n f
  all_but_last =
      ap (λ m. m + sum counts c (λ i. f (n - c + i)))
      (ap (λ m. sum counts m (λ p. within n (p - c) (f (p - c)))) size
      ∙ sum_split counts c (n - c) (λ p. within n (p - c) (f (p - c)))
      ∙ ap₂ ◌+◌
      (sum_none counts c (λ p. within n (p - c) (f (p - c))) (λ p lo hi. within_below n (p - c) (f (p - c)) (omega arith)))
      (sum_same counts (n - c) (λ i. within n (c + i - c) (f (c + i - c))) f (λ i lo hi. within_inside n (c + i - c) (f (c + i - c)) (omega arith) (omega arith) ∙ ap f (back i)))
      ∙ zero-add (sum counts (n - c) f))
      ∙ sym last_apart
    where
      size : n ≡ c + (n - c)
      size = omega arith

      back : (i : ℕ) → c + i - c ≡ i
      back i = omega arith

-- Where the pair's shifts lie c apart, and c is no more than n: the terms and the letters outside are all letters that aren't zero.
module _ (n : ℕ) (t : ℕ → ℕ → ℕ) (x : ℕ → ℕ) (b a c : ℕ) (h : c ≤ n) where
  pub but_first : t b a + c ≡ t b b → terms n t x b a + sum counts c (λ q. worth_of (x q)) ≡ sum counts n (λ q. worth_of (x q))
  unfolding terms
  but_first e =
      ap (λ m. m + sum counts c (λ q. worth_of (x q)))
      (sum_same counts n (λ p. within n (place t b p a) (worth_of (x (place t b p a)))) (λ p. within n (p + c) (worth_of (x (p + c))))
      (λ p lo hi. ap (λ q. within n q (worth_of (x q))) (right p)))
      ∙ all_but_first n c h (λ q. worth_of (x q))
    where
      right : (p : ℕ) → (p + t b b) - t b a ≡ p + c
      right p = omega arith

  pub but_last : t b b + c ≡ t b a → terms n t x b a + sum counts c (λ i. worth_of (x (n - c + i))) ≡ sum counts n (λ q. worth_of (x q))
  unfolding terms
  but_last e =
      ap (λ m. m + sum counts c (λ i. worth_of (x (n - c + i))))
      (sum_same counts n (λ p. within n (place t b p a) (worth_of (x (place t b p a)))) (λ p. within n (p - c) (worth_of (x (p - c))))
      (λ p lo hi. ap (λ q. within n q (worth_of (x q))) (left p)))
      ∙ all_but_last n c h (λ q. worth_of (x q))
    where
      left : (p : ℕ) → (p + t b b) - t b a ≡ p - c
      left p = omega arith

-- the terms read two shifts and the sequence's letters alone
pub terms_same :
    (n : ℕ) (t t' : ℕ → ℕ → ℕ) (x x' : ℕ → ℕ) (b a : ℕ) → t b b ≡ t' b b → t b a ≡ t' b a → ((p : ℕ) → x p ≡ x' p)
    → terms n t x b a ≡ terms n t' x' b a
unfolding terms
terms_same n t t' x x' b a own moved same =
    sum_same counts n (λ p. within n (place t b p a) (worth_of (x (place t b p a)))) (λ p. within n (place t' b p a) (worth_of (x' (place t' b p a))))
    (λ p lo hi.
    ap (λ q. within n q (worth_of (x q))) (ap₂ (λ m k. (p + m) - k) own moved)
    ∙ ap (λ z. within n (place t' b p a) (worth_of z)) (same (place t' b p a)))

-- and all terms those of the ranks 1..s
pub additions_same :
    (s n : ℕ) (t t' x x' : ℕ → ℕ → ℕ) → ((b a : ℕ) → 1 ≤ b → b ≤ s → 1 ≤ a → a ≤ s → t b a ≡ t' b a)
    → ((a p : ℕ) → 1 ≤ a → a ≤ s → x a p ≡ x' a p) → additions s n t x ≡ additions s n t' x'
unfolding additions
additions_same s n t t' x x' et ex =
    sum_same counts s (λ b. sum counts s (λ a. other a b (terms n t (x a) b a))) (λ b. sum counts s (λ a. other a b (terms n t' (x' a) b a)))
    (λ b lb hb.
    sum_same counts s (λ a. other a b (terms n t (x a) b a)) (λ a. other a b (terms n t' (x' a) b a))
    (λ a la ha.
    ap (λ m. other a b m) (terms_same n t t' (x a) (x' a) b a (et b b lb hb lb hb) (et b a lb hb la ha) (λ p. ex a p la ha))))
