-- The first wrong letter: lists of one length are the same, or have one first place at which they differ.
use mathlib.Core.Path.{◌≡◌, sym, ap, ◌∙◌}
use mathlib.Core.List.{List}
use mathlib.Core.Logic.{◌⊎◌, inl, inr, ⊎_elim}
use Prim.Native.Nat.{ℕ, zero, suc, ◌+◌, ◌-◌, ◌≤◌, ◌<◌}
use native.Mathlib.Omega.{arith}
use lib.ListN.{length, get_or}
use lib.Seq.{ext_get_or}
use Rattle.letters.proofs.Cases.{le_or_lt, eq_or_ne}
use Rattle.agreement.specs.Agreement.{letter_at, FirstWrong}

module _ (held right : List ℕ) where
  -- with a wrong letter it isn't the right list
  pub wrong_differs : (p : ℕ) → FirstWrong held right p → right ≡ held → ⊥
  wrong_differs p w e = w.wrong (ap (λ xs. letter_at xs p) (sym e))

  -- there is one first place
  not_before : (p q : ℕ) → FirstWrong held right p → FirstWrong held right q → p < q → ⊥
  not_before p q w v h = w.wrong (v.before p w.from_one h)

  pub one_place : (p q : ℕ) → FirstWrong held right p → FirstWrong held right q → p ≡ q
  one_place p q w v =
      ⊎_elim (λ e. e)
      (λ ne.
      ⊎_elim (λ h. absurd (not_before p q w v (omega arith))) (λ h. absurd (not_before q p v w h)) (le_or_lt p q))
      (eq_or_ne p q)

  -- the first m letters are the right ones, or one of them is the first wrong one
  search_to :
      (m : ℕ) → m ≤ length held
      → ((q : ℕ) → 1 ≤ q → q ≤ m → letter_at held q ≡ letter_at right q) ⊎ ((p : ℕ) × FirstWrong held right p)
  search_to zero h = inl (λ q lo hi. absurd (omega arith))
  search_to (suc m) h =
      ⊎_elim
      (λ same.
      ⊎_elim
      (λ e.
      inl
      (λ q lo hi.
      ⊎_elim (λ is. ap (λ i. letter_at held i) is ∙ e ∙ ap (λ i. letter_at right i) (sym is)) (λ ne. same q lo (omega arith)) (eq_or_ne q (suc m))))
      (λ ne. inr (suc m, record { from_one = omega arith; within = h; before = λ q lo hi. same q lo (omega arith); wrong = ne }))
      (eq_or_ne (letter_at held (suc m)) (letter_at right (suc m))))
      (λ found. inr found)
      (search_to m (omega arith))

  pub compare : length held ≡ length right → (right ≡ held) ⊎ ((p : ℕ) × FirstWrong held right p)
  compare long =
      ⊎_elim
      (λ same.
      inl
      (sym
      (ext_get_or 0 held right long
      (λ q l. ap (λ i. get_or held i 0) (back q) ∙ same (q + 1) (omega arith) (omega arith) ∙ ap (λ i. get_or right i 0) (sym (back q))))))
      (λ found. inr found)
      (search_to (length held) (omega arith))
    where
      back : (q : ℕ) → q ≡ q + 1 - 1
      back q = omega arith
