-- Laws of runs by place and of lists one after another: their lengths, and what stands at each index.
use mathlib.Core.Path.{◌≡◌, refl, sym, ap, ap₂, ◌∙◌}
use mathlib.Core.List.{List, [], ◌∷◌, ◌++◌}
use mathlib.Core.Logic.{⊎_elim}
use Prim.Native.Nat.{ℕ, zero, suc, ◌+◌, ◌-◌, ◌≤◌, ◌<◌, min}
use native.Mathlib.Nat.{eq-or-lt_of_le, le_of_suc-le-suc, le_of_eq, add-zero, zero-add}
use native.Mathlib.Numerals.{add-one}
use native.Mathlib.Omega.{arith}
use lib.ListN.{length, get_or, take, drop, length-append, length-take, length-drop, get_or-append, take-append-drop}
use lib.Seq.{ext_get_or, get_or-append-add, get_or-take, get_or-drop, get_or_at, length-take-le}
use Rattle.sequences.specs.Lists.{run, joined}

module _ {A : Type 0} where
  pub length_run : (n : ℕ) (f : ℕ → A) → length (run n f) ≡ n
  unfolding run
  length_run zero f = refl
  length_run (suc n) f = rw length-append (omega (arith, length_run n f))

  -- the letter at index q stands at place q + 1
  pub get_d_run : (n : ℕ) (f : ℕ → A) (none : A) (q : ℕ) → q < n → get_or (run n f) q none ≡ f (q + 1)
  unfolding run
  get_d_run zero f none q h = absurd (omega arith)
  get_d_run (suc n) f none q h =
      ⊎_elim
      (λ e. get_or_at (run n f) (f (suc n)) [] none q (length_run n f ∙ sym e) ∙ rw (e, add-one) refl)
      (λ l. get_or-append (run n f) (f (suc n) ∷ []) none q (rw length_run l) ∙ get_d_run n f none q l)
      (eq-or-lt_of_le (le_of_suc-le-suc h))

  -- a run is any list of its length that has its letters
  pub is_run :
      (none : A) (n : ℕ) (f : ℕ → A) (xs : List A) → length xs ≡ n → ((q : ℕ) → q < n → get_or xs q none ≡ f (q + 1)) → xs ≡ run n f
  is_run none n f xs e h =
      ext_get_or none xs (run n f) (e ∙ sym (length_run n f)) (λ q l. h q (omega arith) ∙ sym (get_d_run n f none q (omega arith)))

  pub run_same : (none : A) (n : ℕ) (f f' : ℕ → A) → ((p : ℕ) → 1 ≤ p → p ≤ n → f p ≡ f' p) → run n f ≡ run n f'
  run_same none n f f' h =
      is_run none n f' (run n f) (length_run n f) (λ q l. get_d_run n f none q l ∙ h (q + 1) (omega arith) (omega arith))

  -- a part of a run is a run
  pub run_part :
      (none : A) (size from n : ℕ) (f : ℕ → A) → from + n ≤ size → take n (drop from (run size f)) ≡ run n (λ p. f (p + from))
  run_part none size from n f fits =
      is_run none n (λ p. f (p + from)) (take n (drop from (run size f)))
      (length-take-le n (drop from (run size f)) (rw length-drop (omega (arith, length_run size f))))
      (λ q l.
      get_or-take n (drop from (run size f)) q none l
      ∙ get_or-drop from (run size f) q none
      ∙ get_d_run size f none (from + q) (omega arith)
      ∙ ap f (place q))
    where
      place : (q : ℕ) → from + q + 1 ≡ q + 1 + from
      place q = omega arith

  -- where each of the lists F 1, F 2, .. starts: each where the one before it ends
  pub record ListStarts (n : ℕ) (F : ℕ → List A) (start : ℕ → ℕ) : Type 0 where
    pub first : start 1 ≡ 0
    pub next : (j : ℕ) → 1 ≤ j → j ≤ n → start (j + 1) ≡ start j + length (F j)

  starts_fewer : (n : ℕ) (F : ℕ → List A) (start : ℕ → ℕ) → ListStarts (suc n) F start → ListStarts n F start
  starts_fewer n F start s = record { first = s.first; next = λ j lo hi. s.next j lo (omega arith) }

  pub length_joined : (n : ℕ) (F : ℕ → List A) (start : ℕ → ℕ) → ListStarts n F start → length (joined n F) ≡ start (n + 1)
  unfolding joined
  length_joined zero F start s = sym s.first
  length_joined (suc n) F start s =
      length-append (joined n F) (F (suc n))
      ∙ ap (λ m. m + length (F (suc n))) (length_joined n F start (starts_fewer n F start s) ∙ ap start (add-one n))
      ∙ sym (s.next (suc n) (omega arith) (omega arith))

  -- no list starts before an earlier one
  starts_rise : (n : ℕ) (F : ℕ → List A) (start : ℕ → ℕ) → ListStarts n F start → (j m : ℕ) → 1 ≤ j → j + m ≤ n + 1 → start j ≤ start (j + m)
  starts_rise n F start s j zero lo hi = le_of_eq (ap start (sym (add-zero j)))
  starts_rise n F start s j (suc m) lo hi =
      omega
      (arith, starts_rise n F start s j m lo (omega arith), s.next (j + m) (omega arith) (omega arith), ap start (one_more j m))
    where
      one_more : (j m : ℕ) → j + m + 1 ≡ j + suc m
      one_more j m = omega arith

  -- a list ends no later than all of them do
  pub ends_within :
      (n : ℕ) (F : ℕ → List A) (start : ℕ → ℕ) → ListStarts n F start → (j : ℕ) → 1 ≤ j → j ≤ n → start j + length (F j) ≤ start (n + 1)
  ends_within n F start s j lo hi =
      omega (arith, s.next j lo hi, starts_rise n F start s (j + 1) (n - j) (omega arith) (omega arith), ap start (rest n j hi))
    where
      rest : (n j : ℕ) → j ≤ n → j + 1 + (n - j) ≡ n + 1
      rest n j h = omega arith

  after_seam : (xs ys : List A) (none : A) (i q : ℕ) → i ≡ length xs + q → get_or (xs ++ ys) i none ≡ get_or ys q none
  after_seam xs ys none i q e = ap (λ i. get_or (xs ++ ys) i none) e ∙ get_or-append-add xs ys q none

  -- what stands in the list of rank j
  pub get_d_joined :
      (n : ℕ) (F : ℕ → List A) (start : ℕ → ℕ) (none : A) → ListStarts n F start → (j q : ℕ) → 1 ≤ j → j ≤ n → q < length (F j)
      → get_or (joined n F) (start j + q) none ≡ get_or (F j) q none
  unfolding joined
  get_d_joined zero F start none s j q lo hi h = absurd (omega arith)
  get_d_joined (suc n) F start none s j q lo hi h =
      ⊎_elim
      (λ e.
      after_seam (joined n F) (F (suc n)) none (start j + q) q
      (ap (λ m. m + q) (ap start (e ∙ sym (add-one n)) ∙ sym (length_joined n F start fewer)))
      ∙ ap (λ i. get_or (F i) q none) (sym e))
      (λ l.
      get_or-append (joined n F) (F (suc n)) none (start j + q)
      (omega (arith, length_joined n F start fewer, ends_within n F start fewer j lo (le_of_suc-le-suc l)))
      ∙ get_d_joined n F start none fewer j q lo (le_of_suc-le-suc l) h)
      (eq-or-lt_of_le hi)
    where
      fewer : ListStarts n F start
      fewer = starts_fewer n F start s

  -- the lists one after another are any list of their length that has their letters
  pub is_joined :
      (none : A) (n : ℕ) (F : ℕ → List A) (start : ℕ → ℕ) → ListStarts n F start → (xs : List A) → length xs ≡ start (n + 1)
      → ((j q : ℕ) → 1 ≤ j → j ≤ n → q < length (F j) → get_or xs (start j + q) none ≡ get_or (F j) q none) → xs ≡ joined n F
  unfolding joined
  is_joined none zero F start s xs e h = ext_get_or none xs [] (e ∙ s.first) (λ i l. absurd (omega (arith, s.first, ap start (zero-add 1))))
  is_joined none (suc n) F start s xs e h =
      sym (take-append-drop (start (n + 1)) xs)
      ∙ ap₂ ◌++◌
      (is_joined none n F start fewer (take (start (n + 1)) xs) (length-take (start (n + 1)) xs ∙ shorter)
      (λ j q lo hi l.
      get_or-take (start (n + 1)) xs (start j + q) none (omega (arith, ends_within n F start fewer j lo hi))
      ∙ h j q lo (omega arith) l))
      back
    where
      fewer : ListStarts n F start
      fewer = starts_fewer n F start s

      ends : start (suc n + 1) ≡ start (n + 1) + length (F (suc n))
      ends = s.next (suc n) (omega arith) (omega arith) ∙ ap (λ j. start j + length (F (suc n))) (sym (add-one n))

      shorter : min (start (n + 1)) (length xs) ≡ start (n + 1)
      shorter = omega (arith, ends)

      rest : length xs - start (n + 1) ≡ length (F (suc n))
      rest = omega (arith, ends)

      back : drop (start (n + 1)) xs ≡ F (suc n)
      back =
          ext_get_or none (drop (start (n + 1)) xs) (F (suc n)) (length-drop (start (n + 1)) xs ∙ rest)
          (λ q l.
          get_or-drop (start (n + 1)) xs q none
          ∙ ap (λ j. get_or xs (start j + q) none) (add-one n)
          ∙ h (suc n) q (omega arith) (omega arith) (omega (arith, length-drop (start (n + 1)) xs, ends)))

  pub joined_same :
      (n : ℕ) (F F' : ℕ → List A) → ((j : ℕ) → 1 ≤ j → j ≤ n → F j ≡ F' j) → joined n F ≡ joined n F'
  unfolding joined
  joined_same zero F F' h = refl
  joined_same (suc n) F F' h = ap₂ ◌++◌ (joined_same n F F' (λ j lo hi. h j lo (omega arith))) (h (suc n) (omega arith) (omega arith))

  -- one list more
  pub joined_more : (n : ℕ) (F : ℕ → List A) → joined (n + 1) F ≡ joined n F ++ F (n + 1)
  unfolding joined
  joined_more n F = rw add-one
