-- The solving fact: two families of sequences with the same parts are the same, letter by letter in the order in which they come out. An equation's other letters come out before its own, so they agree already, and then its own agree too.
use mathlib.Core.Path.{◌≡◌, sym, ap, ◌∙◌}
use mathlib.Core.Logic.{◌⊎◌, inl, inr, ⊎_elim}
use Prim.Native.Nat.{ℕ, zero, suc, ◌+◌, ◌-◌, ◌≤◌, ◌<◌}
use native.Mathlib.Nat.{eq-or-lt_of_le}
use native.Mathlib.Omega.{arith}
use Rattle.letters.specs.Algebra.{Letters}
use Rattle.letters.proofs.Cases.{le_or_lt, eq_or_ne}
use Rattle.letters.proofs.Places.{place_cases}
use Rattle.letters.proofs.Sums.{sum_but_one}
use Rattle.system.specs.System.{part, Sequences}
use Rattle.system.specs.Order.{delay, Ordered}

-- Where equation (b,p) reads another sequence a at a place from 1 on, that letter comes out no later, and in an earlier round if a is the higher rank.
pub earlier :
    (s : ℕ) (t : ℕ → ℕ → ℕ) → Ordered s t → (b p a : ℕ) → 1 ≤ b → b ≤ s → 1 ≤ a → a ≤ s → (a ≡ b → ⊥)
    → 1 ≤ (p + t b b) - t b a
    → (delay t a + ((p + t b b) - t b a) ≤ delay t b + p) × (b < a → delay t a + ((p + t b b) - t b a) < delay t b + p)
earlier s t o b p a lb hb la ha ne lo =
    ⊎_elim (λ h. (omega (arith, up h), λ l. omega (arith, up h)))
    (λ h. (omega (arith, down h), λ l. absurd (omega arith))) (le_or_lt b a)
  where
    up : b ≤ a → t b b + delay t a < t b a + delay t b
    up h = ⊎_elim (λ e. absurd (ne (sym e))) (λ l. o.from-higher a b lb l ha) (eq-or-lt_of_le h)

    down : a < b → t b b + delay t a ≤ t b a + delay t b
    down h = o.from_lower a b la h hb

-- an equation reads its own sequence at its own place
pub own_place : (p m : ℕ) → (p + m) - m ≡ p
own_place p m = omega arith

-- a rank up to u of round r is u itself, or its letters came before u
its_turn : (d r b u : ℕ) → (d ≡ r → b < suc u) → ((d ≡ r) × (b ≡ u)) ⊎ (d ≡ r → b < u)
its_turn d r b u l =
    ⊎_elim (λ e. ⊎_elim (λ h. inl (e, omega (arith, l e))) (λ h. inr (λ e'. h)) (le_or_lt u b)) (λ ne. inr (λ e. absurd (ne e)))
    (eq_or_ne d r)

module _ {A : Type 0} (𝓛 : Letters A) (s n : ℕ) (t : ℕ → ℕ → ℕ) (ordered : Ordered s t) where
  -- the letters that come out before rank u of round r are the same
  abbrev Agree : (ℕ → ℕ → A) → (ℕ → ℕ → A) → ℕ → ℕ → Type 0
  Agree x y r u =
      (b p : ℕ) → 1 ≤ b → b ≤ s → delay t b + p ≤ r → (delay t b + p ≡ r → b < u) → x b p ≡ y b p

  module _ (x y : ℕ → ℕ → A) (xs : Sequences 𝓛.adding.none n x) (ys : Sequences 𝓛.adding.none n y)
      (same : (b p : ℕ) → 1 ≤ b → b ≤ s → 1 ≤ p → p ≤ n → part 𝓛.adding s t x b p ≡ part 𝓛.adding s t y b p) where
    -- outside 1..n there is nothing in either
    outside : (b p : ℕ) → (1 ≤ p → p ≤ n → x b p ≡ y b p) → x b p ≡ y b p
    outside b p inner =
        ⊎_elim (λ w. inner w.0 w.1)
        (λ out.
        ⊎_elim (λ z. ap (x b) z ∙ xs.nothing_below b ∙ sym (ap (y b) z ∙ ys.nothing_below b))
        (λ h. xs.nothing_above b p h ∙ sym (ys.nothing_above b p h)) out)
        (place_cases n p)

    -- the letters of one equation's own sequence, once all earlier ones agree
    next : (b p : ℕ) → 1 ≤ b → b ≤ s → 1 ≤ p → p ≤ n → Agree x y (delay t b + p) b → x b p ≡ y b p
    unfolding part
    next b p lb hb lp hp before =
        ap (x b) (sym (own_place p (t b b)))
        ∙ sum_but_one 𝓛 s b (λ a. x a ((p + t b b) - t b a)) (λ a. y a ((p + t b b) - t b a)) lb hb (same b p lb hb lp hp)
        (λ a la ha ne.
        outside a ((p + t b b) - t b a)
        (λ lo hi.
        let w = earlier s t ordered b p a lb hb la ha ne lo in
        before a ((p + t b b) - t b a) la ha w.0
        (λ e.
        ⊎_elim (λ h. absurd (⊎_elim (λ q. ne (sym q)) (λ l. omega (arith, w.1 l)) (eq-or-lt_of_le h))) (λ h. h) (le_or_lt b a))))
        ∙ ap (y b) (own_place p (t b b))

    -- through one round, rank by rank
    in_round : (r : ℕ) → Agree x y r 0 → (u : ℕ) → Agree x y r u
    in_round r start zero = start
    in_round r start (suc u) =
        λ b p lb hb h l.
        ⊎_elim
        (λ e.
        outside b p
        (λ lp hp.
        next b p lb hb lp hp
        (λ a q la ha hr hl. in_round r start u a q la ha (omega arith) (λ e'. omega (arith, hl (omega arith))))))
        (λ f. in_round r start u b p lb hb h f)
        (its_turn (delay t b + p) r b u l)

    agree : (r u : ℕ) → Agree x y r u
    agree zero = in_round zero (λ b p lb hb h l. absurd (omega (arith, l (omega arith))))
    agree (suc r) =
        in_round (suc r) (λ b p lb hb h l. agree r (s + 1) b p lb hb (⊎_elim (λ e. absurd (omega (arith, l e))) (λ e. omega arith) (eq-or-lt_of_le h)) (λ e. omega arith))

    pub one_solution : (b p : ℕ) → 1 ≤ b → b ≤ s → x b p ≡ y b p
    one_solution b p lb hb = agree (delay t b + p) (b + 1) b p lb hb (omega arith) (λ e. omega arith)
