-- The terms whose letter isn't zero are never more than document 01's sum (docs/SCHEME.md, 8), and as many where no letter is zero: for two ranks, the equations whose letter lies inside 1..n are all but as many as the two shifts lie apart.
use mathlib.Core.Path.{◌≡◌, sym, ap, ◌∙◌}
use mathlib.Core.Bool.{Bool, true, false, cond}
use mathlib.Core.List.{List}
use mathlib.Core.Logic.{⊎_elim}
use Prim.Native.Nat.{ℕ, ◌+◌, ◌-◌, ◌*◌, ◌≤◌, ◌<◌}
use native.Mathlib.Omega.{arith}
use lib.Dec.{eqb}
use lib.ListN.{length}
use Rattle.letters.specs.Algebra.{counts, sum}
use Rattle.letters.specs.Places.{inside}
use Rattle.letters.proofs.Cases.{le_or_lt}
use Rattle.letters.proofs.Sums.{sum_same, sum_none, sum_below, sum_constant}
use Rattle.worth.specs.Worth.{worth_of, NoZero}
use Rattle.worth.proofs.Worth.{worth_of_at_most, worth_of_one}
use Rattle.system.proofs.Within.{within_below, within_above}
use Rattle.system.proofs.Terms.{all_but_first, all_but_last}
use Rattle.system.proofs.System.{sequence_inside, index_below}
use Rattle.system.specs.System.{sequence}
use Rattle.system.specs.Count.{terms, additions, cost, place, other, within, distance}

-- Moved right by c, those of 1..n lie inside that are not pushed out above n, and moved left by c those that are not pushed out below 1: all but c of them.
moved_right : (n c : ℕ) → sum counts n (λ p. within n (p + c) 1) ≡ n - c
moved_right n c =
    ⊎_elim (λ l. omega (arith, all_but_first n c l (λ q. 1), sum_constant n 1, sum_constant c 1))
    (λ l. sum_none counts n (λ p. within n (p + c) 1) (λ p lo hi. within_above n (p + c) 1 (omega arith)) ∙ omega arith) (le_or_lt c n)

moved_left : (n c : ℕ) → sum counts n (λ p. within n (p - c) 1) ≡ n - c
moved_left n c =
    ⊎_elim (λ l. omega (arith, all_but_last n c l (λ q. 1), sum_constant n 1, sum_constant c 1))
    (λ l. sum_none counts n (λ p. within n (p - c) 1) (λ p lo hi. within_below n (p - c) 1 (omega arith)) ∙ omega arith) (le_or_lt c n)

-- Moved right by d and left by e: all but as many as d and e lie apart.
pub moved_inside : (n d e : ℕ) → sum counts n (λ p. within n ((p + d) - e) 1) ≡ n - distance e d
moved_inside n d e =
    ⊎_elim
    (λ h.
    sum_same counts n (λ p. within n ((p + d) - e) 1) (λ p. within n (p + (d - e)) 1) (λ p lo hi. ap (λ q. within n q 1) (right p h))
    ∙ moved_right n (d - e)
    ∙ omega arith)
    (λ h.
    sum_same counts n (λ p. within n ((p + d) - e) 1) (λ p. within n (p - (e - d)) 1) (λ p lo hi. ap (λ q. within n q 1) (left p h))
    ∙ moved_left n (e - d)
    ∙ omega arith)
    (le_or_lt e d)
  where
    right : (p : ℕ) → e ≤ d → (p + d) - e ≡ p + (d - e)
    right p h = omega arith

    left : (p : ℕ) → d < e → (p + d) - e ≡ p - (e - d)
    left p h = omega arith

-- what holds in one case of two is at most what holds in it of more
either_most : (c : Bool) (m k m' k' : ℕ) → m ≤ k → m' ≤ k' → cond c m m' ≤ cond c k k'
either_most true m k m' k' h h' = h
either_most false m k m' k' h h' = h'

module _ (n : ℕ) (t : ℕ → ℕ → ℕ) (x : ℕ → ℕ) (b a : ℕ) where
  pub terms_at_most : terms n t x b a ≤ n - distance (t b a) (t b b)
  unfolding terms
  terms_at_most =
      omega (
        arith,
        sum_below n (λ p. within n (place t b p a) (worth_of (x (place t b p a)))) (λ p. within n (place t b p a) 1)
            (λ p lo hi. either_most (inside n (place t b p a)) (worth_of (x (place t b p a))) 1 0 0 (worth_of_at_most (x (place t b p a))) (omega arith)),
        moved_inside n (t b b) (t b a),
      )

  -- all of them, where no letter of the sequence is zero
  pub terms_all : ((q : ℕ) → 1 ≤ q → q ≤ n → x q ≡ 0 → ⊥) → terms n t x b a ≡ n - distance (t b a) (t b b)
  unfolding terms
  terms_all some =
      sum_same counts n (λ p. within n (place t b p a) (worth_of (x (place t b p a)))) (λ p. within n (place t b p a) 1)
      (λ p lo hi. one (place t b p a))
      ∙ moved_inside n (t b b) (t b a)
    where
      one : (q : ℕ) → within n q (worth_of (x q)) ≡ within n q 1
      one q =
          ⊎_elim
          (λ high.
          ⊎_elim (λ low. ap (λ m. within n q m) (worth_of_one (x q) (some q low high))) (λ none. within_below n q (worth_of (x q)) (omega arith) ∙ sym (within_below n q 1 (omega arith)))
          (le_or_lt 1 q))
          (λ past. within_above n q (worth_of (x q)) past ∙ sym (within_above n q 1 past)) (le_or_lt q n)

module _ (s n : ℕ) (t x : ℕ → ℕ → ℕ) where
  pub additions_at_most : additions s n t x ≤ cost s n t
  unfolding additions cost
  additions_at_most =
      sum_below s (λ b. sum counts s (λ a. other a b (terms n t (x a) b a))) (λ b. sum counts s (λ a. other a b (n - distance (t b a) (t b b))))
      (λ b lb hb.
      sum_below s (λ a. other a b (terms n t (x a) b a)) (λ a. other a b (n - distance (t b a) (t b b)))
      (λ a la ha. either_most (eqb a b) 0 0 (terms n t (x a) b a) (n - distance (t b a) (t b b)) (omega arith) (terms_at_most n t (x a) b a)))

  pub additions_all : ((a q : ℕ) → 1 ≤ a → a ≤ s → 1 ≤ q → q ≤ n → x a q ≡ 0 → ⊥) → additions s n t x ≡ cost s n t
  unfolding additions cost
  additions_all some =
      sum_same counts s (λ b. sum counts s (λ a. other a b (terms n t (x a) b a))) (λ b. sum counts s (λ a. other a b (n - distance (t b a) (t b b))))
      (λ b lb hb.
      sum_same counts s (λ a. other a b (terms n t (x a) b a)) (λ a. other a b (n - distance (t b a) (t b b)))
      (λ a la ha. ap (λ m. other a b m) (terms_all n t (x a) b a (λ q lq hq. some a q la ha lq hq))))

-- no letter of s sequences of n letters is zero, if none of the buffer is
pub sequences_no_zero :
    (s n : ℕ) (xs : List ℕ) → length xs ≡ s * n → NoZero xs → (a q : ℕ) → 1 ≤ a → a ≤ s → 1 ≤ q → q ≤ n → sequence 0 xs n a q ≡ 0 → ⊥
sequences_no_zero s n xs long some a q la ha lq hq e =
    some.each ((a - 1) * n + (q - 1)) (omega (arith, index_below s n a q la ha lq hq)) (sym (sequence_inside 0 xs n a q lq hq) ∙ e)
