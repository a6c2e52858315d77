-- A run without what falls outside at one of its ends has as many letters that aren't zero as there are terms.
use mathlib.Core.Path.{◌≡◌, sym, ap, ◌∙◌}
use mathlib.Core.List.{List}
use mathlib.Core.Logic.{⊎_elim}
use Prim.Native.Nat.{ℕ, ◌+◌, ◌-◌, ◌*◌, ◌≤◌, ◌<◌}
use native.Mathlib.Nat.{zero-add}
use native.Mathlib.Omega.{arith}
use lib.ListN.{get_or}
use Rattle.letters.specs.Algebra.{counts, sum}
use Rattle.letters.specs.Places.{letter}
use Rattle.letters.proofs.Cases.{le_or_lt}
use Rattle.letters.proofs.Places.{letter_inside}
use Rattle.letters.proofs.Sums.{sum_same, sum_swap}
use Rattle.worth.specs.Worth.{worth_of, worth_in}
use Rattle.worth.proofs.Worth.{worth_in_join}
use Rattle.system.specs.System.{sequence}
use Rattle.system.specs.Count.{additions, other, distance}
use Rattle.system.proofs.Terms.{but_first, but_last}
use Rattle.system.proofs.Cost.{terms_at_most}
use Rattle.equation.specs.Rows.{shift_in}
use Rattle.counting.specs.Steps.Taken.{Counted, LeftOf, run_terms, others_terms}

module _ (buffer : List ℕ) (start n : ℕ) where
  -- the part of the run behind its first k letters, by the run's places
  part_worth : (k c : ℕ) → k + c ≤ n → worth_in buffer (start + k) c ≡ sum counts c (λ i. worth_of (letter 0 buffer start n (k + i)))
  unfolding worth_in
  part_worth k c h =
      sum_same counts c (λ p. worth_of (get_or buffer (start + k + (p - 1)) 0)) (λ i. worth_of (letter 0 buffer start n (k + i)))
      (λ i lo hi. ap worth_of (ap (λ j. get_or buffer j 0) (index i lo) ∙ sym (letter_inside 0 buffer start n (k + i) (omega arith) (omega arith))))
    where
      index : (i : ℕ) → 1 ≤ i → start + k + (i - 1) ≡ start + (k + i - 1)
      index i lo = omega arith

  first_worth : (c : ℕ) → c ≤ n → worth_in buffer start c ≡ sum counts c (λ q. worth_of (letter 0 buffer start n q))
  first_worth c h =
      ap (λ i. worth_in buffer i c) here
      ∙ part_worth 0 c (omega arith)
      ∙ sum_same counts c (λ i. worth_of (letter 0 buffer start n (0 + i))) (λ q. worth_of (letter 0 buffer start n q))
      (λ i lo hi. ap (λ q. worth_of (letter 0 buffer start n q)) (zero-add i))
    where
      here : start ≡ start + 0
      here = omega arith

  module _ (rows : List ℕ) (b a c r : ℕ) where
    -- the shifts lie so far apart that nothing is taken
    nothing : n ≤ distance (shift_in rows b a) (shift_in rows b b) → run_terms buffer start n rows b a ≡ 0
    nothing h = omega (arith, terms_at_most n (shift_in rows) (letter 0 buffer start n) b a)

    pub first_outside : shift_in rows b a + c ≡ shift_in rows b b → LeftOf buffer start n start c r → r ≡ run_terms buffer start n rows b a
    first_outside e left =
        ⊎_elim (λ all. left.none all ∙ sym (nothing (omega arith)))
        (λ some.
        omega (
          arith,
          left.rest some,
          but_first n (shift_in rows) (letter 0 buffer start n) b a c (omega arith) e,
          first_worth c (omega arith),
          first_worth n (omega arith),
        )) (le_or_lt n c)

    pub last_outside : shift_in rows b b + c ≡ shift_in rows b a → LeftOf buffer start n (start + (n - c)) c r → r ≡ run_terms buffer start n rows b a
    last_outside e left =
        ⊎_elim (λ all. left.none all ∙ sym (nothing (omega arith)))
        (λ some.
        omega (
          arith,
          left.rest some,
          but_last n (shift_in rows) (letter 0 buffer start n) b a c (omega arith) e,
          part_worth (n - c) c (omega arith),
          first_worth n (omega arith),
        )) (le_or_lt n c)

  -- what is left of a counted run
  module _ (whole outside : ℕ) (run : Counted buffer start n whole) where
    -- a part of it, behind its first k letters, has no more of them
    pub part_of_whole : (k : ℕ) → k + outside ≤ n → worth_in buffer (start + k) outside ≤ whole
    part_of_whole k h =
        omega (
          arith,
          run.all,
          ap (worth_in buffer start) size,
          worth_in_join buffer start (k + outside) (n - (k + outside)),
          worth_in_join buffer start k outside,
        )
      where
        size : n ≡ k + outside + (n - (k + outside))
        size = omega arith

    pub left_rest : (from r : ℕ) → outside < n → r ≡ worth_in buffer from outside → r ≤ whole → LeftOf buffer start n from outside (whole - r)
    left_rest from r h e le = record { none = λ q. absurd (omega arith); rest = λ q. omega (arith, run.all) }

-- the terms are never more than the run's letters
pub terms_few : (buffer : List ℕ) (start n : ℕ) (rows : List ℕ) (b a : ℕ) → run_terms buffer start n rows b a ≤ n
terms_few buffer start n rows b a = omega (arith, terms_at_most n (shift_in rows) (letter 0 buffer start n) b a)

-- solving by sequences, as the code counts: of each all that the other ranks take
pub by_sequences :
    (s n : ℕ) (rows part : List ℕ)
    → sum counts s (λ a. others_terms part ((a - 1) * n) n rows s a) ≡ additions s n (shift_in rows) (sequence 0 part n)
unfolding additions sequence
by_sequences s n rows part = sum_swap counts s s (λ a b. other a b (run_terms part ((a - 1) * n) n rows b a))
