-- Every content is the parts of some family: take each letter as what came in plus what its equation takes from the other sequences, again and again. Those letters come out earlier, so this settles.
use mathlib.Core.Path.{◌≡◌, refl, sym, ap, ◌∙◌}
use mathlib.Core.Bool.{false, cond}
use mathlib.Core.Logic.{◌⊎◌, inl, inr, ⊎_elim}
use Prim.Native.Nat.{ℕ, ◌+◌, ◌-◌, ◌*◌, ◌≤◌, ◌<◌}
use native.Mathlib.Nat.{mul-le-mul_right, eq-or-lt_of_le}
use native.Mathlib.Omega.{arith}
use lib.Arith.{digits_lt}
use lib.Dec.{eqb}
use borrow.Author.Tests.{eq-eqb, ne_eqb}
use Rattle.letters.specs.Algebra.{Letters, sum}
use Rattle.letters.specs.Places.{both, inside}
use Rattle.letters.proofs.Cases.{le_or_lt, eq_or_ne}
use Rattle.letters.proofs.Places.{both_no, place_cases, inside_true, inside_below, inside_above}
use Rattle.letters.proofs.Sums.{sum_same, sum_change, none_plus, plus_twice}
use Rattle.system.specs.System.{part, Sequences}
use Rattle.system.specs.Order.{delay, Ordered}
use Rattle.system.proofs.OneSolution.{earlier, own_place}
use Rattle.system.proofs.Settles.{settled, settles}

-- an earlier round, or the same round and an earlier rank, is an earlier time
earlier_rank : (c x y a b : ℕ) → x ≤ y → a < b → x * c + a < y * c + b
earlier_rank c x y a b h l = omega (arith, mul-le-mul_right c h)

earlier_round : (c x y a b : ℕ) → x < y → a < c → x * c + a < y * c + b
earlier_round c x y a b h l = omega (arith, digits_lt {q = x} {m = y} {r = a} {c = c} h l)

outside_none : (n p : ℕ) → (p ≡ 0) ⊎ (n < p) → inside n p ≡ false
outside_none n p out = ⊎_elim (inside_below n p) (inside_above n p) out

module _ {A : Type 0} (𝓛 : Letters A) (s n : ℕ) (t : ℕ → ℕ → ℕ) (ordered : Ordered s t) (y : ℕ → ℕ → A) where
  -- a letter inside 1..n, and else nothing
  abbrev here : (ℕ × ℕ → A) → ℕ → ℕ → A
  here x a q = cond (inside n q) (x (a, q)) 𝓛.adding.none

  -- what equation (b,p) takes from the other sequences
  abbrev taken : (ℕ × ℕ → A) → ℕ → ℕ → ℕ → A
  taken x b p a = cond (eqb a b) 𝓛.adding.none (here x a ((p + t b b) - t b a))

  abbrev step : (ℕ × ℕ → A) → ℕ × ℕ → A
  step x i =
      cond (both (inside s i.0) (inside n i.1))
      (𝓛.adding.plus (y i.0 i.1) (sum 𝓛.adding s (taken x i.0 i.1)))
      𝓛.adding.none

  abbrev time : ℕ × ℕ → ℕ
  time i = (delay t i.0 + i.1) * (s + 1) + i.0

  -- each letter that an equation takes is of an earlier time
  taken_earlier :
      (b p a : ℕ) → 1 ≤ b → b ≤ s → 1 ≤ a → a ≤ s → (a ≡ b → ⊥) → 1 ≤ (p + t b b) - t b a
      → time (a, (p + t b b) - t b a) < time (b, p)
  taken_earlier b p a lb hb la ha ne lo =
      let w = earlier s t ordered b p a lb hb la ha ne lo in
      ⊎_elim
      (λ h.
      earlier_round (s + 1) (delay t a + ((p + t b b) - t b a)) (delay t b + p) a b
      (w.1 (⊎_elim (λ e. absurd (ne (sym e))) (λ l. l) (eq-or-lt_of_le h))) (omega arith))
      (λ h. earlier_rank (s + 1) (delay t a + ((p + t b b) - t b a)) (delay t b + p) a b w.0 h)
      (le_or_lt b a)

  same_taken :
      (x x' : ℕ × ℕ → A) (b p : ℕ) → 1 ≤ b → b ≤ s → ((j : ℕ × ℕ) → time j < time (b, p) → x j ≡ x' j)
      → (a : ℕ) → 1 ≤ a → a ≤ s → taken x b p a ≡ taken x' b p a
  same_taken x x' b p lb hb h a la ha =
      ⊎_elim (λ e. simp (eq-eqb a b e))
      (λ ne.
      simp (ne_eqb a b ne)
      (⊎_elim
      (λ w. simp (inside_true n ((p + t b b) - t b a) w.0 w.1) (h (a, (p + t b b) - t b a) (taken_earlier b p a lb hb la ha ne w.0)))
      (λ out. simp (outside_none n ((p + t b b) - t b a) out))
      (place_cases n ((p + t b b) - t b a))))
      (eq_or_ne a b)

  reads_earlier : (x x' : ℕ × ℕ → A) (i : ℕ × ℕ) → ((j : ℕ × ℕ) → time j < time i → x j ≡ x' j) → step x i ≡ step x' i
  reads_earlier x x' i h =
      ⊎_elim
      (λ w.
      ap (λ z. cond (both (inside s i.0) (inside n i.1)) (𝓛.adding.plus (y i.0 i.1) z) 𝓛.adding.none)
      (sum_same 𝓛.adding s (taken x i.0 i.1) (taken x' i.0 i.1) (same_taken x x' i.0 i.1 w.0 w.1 h)))
      (λ out. simp (outside_none s i.0 out))
      (place_cases s i.0)

  -- what the step settles to, from nothing
  pub solution : ℕ → ℕ → A
  solution b p = settled time step reads_earlier (λ j. 𝓛.adding.none) (b, p)

  solution_is : (b p : ℕ) → solution b p ≡ step (settled time step reads_earlier (λ j. 𝓛.adding.none)) (b, p)
  unfolding solution
  solution_is b p = settles time step reads_earlier (λ j. 𝓛.adding.none) (b, p)

  -- nothing stands outside
  solution_outside : (b p : ℕ) → (p ≡ 0) ⊎ (n < p) → solution b p ≡ 𝓛.adding.none
  solution_outside b p out = solution_is b p ∙ simp (outside_none n p out, both_no (inside s b))

  pub solved : Sequences 𝓛.adding.none n solution
  solved =
      record { nothing_below = λ b. solution_outside b 0 (inl refl); nothing_above = λ b p h. solution_outside b p (inr h) }

  others : ℕ → ℕ → A
  others b p = sum 𝓛.adding s (taken (settled time step reads_earlier (λ j. 𝓛.adding.none)) b p)

  -- apart from its own letter, the equation takes what the step took
  apart : (b p : ℕ) → 1 ≤ b → b ≤ s → part 𝓛.adding s t solution b p ≡ 𝓛.adding.plus (others b p) (solution b p)
  unfolding part others solution
  apart b p lb hb =
      sum_change 𝓛.adding s b
      (taken (settled time step reads_earlier (λ j. 𝓛.adding.none)) b p)
      (λ a. solution a ((p + t b b) - t b a)) (solution b p) lb hb
      (ap (solution b) (own_place p (t b b))
      ∙ sym (none_plus 𝓛.adding (solution b p))
      ∙ ap (λ z. 𝓛.adding.plus z (solution b p)) (sym own_none))
      (λ a la ha ne.
      ⊎_elim
      (λ w. simp (ne_eqb a b ne, inside_true n ((p + t b b) - t b a) w.0 w.1))
      (λ out.
      solution_outside a ((p + t b b) - t b a) out ∙ simp (ne_eqb a b ne, outside_none n ((p + t b b) - t b a) out))
      (place_cases n ((p + t b b) - t b a)))
    where
      own_none : taken (settled time step reads_earlier (λ j. 𝓛.adding.none)) b p b ≡ 𝓛.adding.none
      own_none = simp (eq-eqb b b refl)

  -- the parts of the solution are what was given
  pub solves : (b p : ℕ) → 1 ≤ b → b ≤ s → 1 ≤ p → p ≤ n → part 𝓛.adding s t solution b p ≡ y b p
  unfolding others
  solves b p lb hb lp hp =
      apart b p lb hb
      ∙ ap (𝓛.adding.plus (others b p)) (solution_is b p ∙ simp (inside_true s b lb hb, inside_true n p lp hp))
      ∙ 𝓛.adding.comm (others b p) (𝓛.adding.plus (y b p) (others b p))
      ∙ plus_twice 𝓛 (y b p) (others b p)
