-- Laws of lists added to each other: their lengths, the letter at any index, and what several runs added come to.
use mathlib.Core.Path.{◌≡◌, refl, sym, ap, ap₂, ◌∙◌}
use mathlib.Core.List.{List, [], ◌∷◌, ◌++◌}
use mathlib.Core.Logic.{⊎_elim}
use Prim.Native.Nat.{ℕ, zero, suc, ◌+◌, ◌-◌, ◌≤◌, ◌<◌}
use native.Mathlib.Nat.{add_assoc, sub-zero, suc-sub-suc}
use native.Mathlib.Numerals.{add-one}
use native.Mathlib.Omega.{arith}
use lib.ListN.{length, get_or, take, drop, set, length-append, length-take, length-drop, take-append-drop, get_or-eq_default, get_or-append}
use lib.Seq.{ext_get_or, get_or-append-add, length-take-le, take-suc, take-add, drop-drop}
use Rattle.letters.specs.Algebra.{Adding}
use Rattle.letters.specs.Places.{letter}
use Rattle.letters.specs.Runs.{xored, added}
use Rattle.letters.proofs.Cases.{le_or_lt}
use Rattle.letters.proofs.Places.{letter_zero, letter_above, letter_of_all, letter_of_nothing}
use Rattle.letters.proofs.Sums.{none_plus}

module _ {A : Type 0} (𝓐 : Adding A) where
  pub length_xored : (xs ys : List A) → length (xored 𝓐 xs ys) ≡ length xs
  unfolding xored
  length_xored [] ys = refl
  length_xored (x ∷ xs) [] = refl
  length_xored (x ∷ xs) (y ∷ ys) = ap suc (length_xored xs ys)

  pub get_d_xored :
      (xs ys : List A) (i : ℕ) → i < length xs
      → get_or (xored 𝓐 xs ys) i 𝓐.none ≡ 𝓐.plus (get_or xs i 𝓐.none) (get_or ys i 𝓐.none)
  unfolding xored
  get_d_xored [] ys i h = absurd (omega arith)
  get_d_xored (x ∷ xs) [] i h = sym (𝓐.plus_none (get_or (x ∷ xs) i 𝓐.none))
  get_d_xored (x ∷ xs) (y ∷ ys) zero h = refl
  get_d_xored (x ∷ xs) (y ∷ ys) (suc i) h = get_d_xored xs ys i (omega arith)

  pub length_added : (xs : List A) (at : ℕ) (ys : List A) → length (added 𝓐 xs at ys) ≡ length xs
  unfolding added
  length_added xs at ys = simp (length-append, length_xored, length-take, length-drop) (omega arith)

  -- before the run
  pub added_before :
      (xs : List A) (at : ℕ) (ys : List A) (i : ℕ) → i < at → get_or (added 𝓐 xs at ys) i 𝓐.none ≡ get_or xs i 𝓐.none
  unfolding added xored
  added_before xs zero ys i h = absurd (omega arith)
  added_before [] (suc at) ys i h = refl
  added_before (x ∷ xs) (suc at) ys zero h = refl
  added_before (x ∷ xs) (suc at) ys (suc i) h = added_before xs at ys i (omega arith)

  -- from the run's start on; past its end its letter is zero, and the letter is as it was
  pub added_from :
      (xs : List A) (at : ℕ) (ys : List A) (i : ℕ) → at ≤ i → i < length xs
      → get_or (added 𝓐 xs at ys) i 𝓐.none ≡ 𝓐.plus (get_or xs i 𝓐.none) (get_or ys (i - at) 𝓐.none)
  unfolding added
  added_from xs zero ys i h l = rw sub-zero (get_d_xored xs ys i l)
  added_from [] (suc at) ys i h l = absurd (omega arith)
  added_from (x ∷ xs) (suc at) ys zero h l = absurd (omega arith)
  added_from (x ∷ xs) (suc at) ys (suc i) h l =
      rw suc-sub-suc (added_from xs at ys i (omega arith) (omega arith))

  -- past the run's end
  pub added_after :
      (xs : List A) (at : ℕ) (ys : List A) (i : ℕ) → at + length ys ≤ i → i < length xs
      → get_or (added 𝓐 xs at ys) i 𝓐.none ≡ get_or xs i 𝓐.none
  added_after xs at ys i h l =
      added_from xs at ys i (omega arith) l
      ∙ ap (𝓐.plus (get_or xs i 𝓐.none)) (get_or-eq_default ys 𝓐.none (omega arith))
      ∙ 𝓐.plus_none (get_or xs i 𝓐.none)

  -- the letter at any index: what it was plus the run's letter there, with the run moved right by at
  pub added_at :
      (xs : List A) (at : ℕ) (ys : List A) (i : ℕ) → i < length xs
      → get_or (added 𝓐 xs at ys) i 𝓐.none
      ≡ 𝓐.plus (get_or xs i 𝓐.none) (letter 𝓐.none ys 0 (length ys) (i + 1 - at))
  added_at xs at ys i l =
      ⊎_elim
      (λ h. added_from xs at ys i h l ∙ ap (𝓐.plus (get_or xs i 𝓐.none)) (sym (run_letter_lem (i - at) (i + 1 - at) (omega arith))))
      (λ h.
      added_before xs at ys i h
      ∙ sym (𝓐.plus_none (get_or xs i 𝓐.none))
      ∙ ap (𝓐.plus (get_or xs i 𝓐.none)) (sym (letter_zero 𝓐.none ys 0 (length ys) (i + 1 - at) (omega arith))))
      (le_or_lt at i)
    where
      run_letter_lem : (q p : ℕ) → p ≡ q + 1 → letter 𝓐.none ys 0 (length ys) p ≡ get_or ys q 𝓐.none
      run_letter_lem q p e = letter_of_all 𝓐.none ys q p e

  -- two lists of one length whose letters agree are the same
  agree :
      (xs ys zs : List A) → length ys ≡ length xs → length zs ≡ length xs
      → ((i : ℕ) → i < length xs → get_or ys i 𝓐.none ≡ get_or zs i 𝓐.none) → ys ≡ zs
  agree xs ys zs ey ez h = ext_get_or 𝓐.none ys zs (ey ∙ sym ez) (λ i l. h i (omega arith))

  -- adding no letters changes nothing
  pub added_none : (xs : List A) (at : ℕ) → added 𝓐 xs at [] ≡ xs
  added_none xs at =
      agree xs (added 𝓐 xs at []) xs (length_added xs at []) refl
      (λ i l.
      added_at xs at [] i l
      ∙ ap (𝓐.plus (get_or xs i 𝓐.none)) (letter_of_nothing 𝓐.none (i + 1 - at))
      ∙ 𝓐.plus_none (get_or xs i 𝓐.none))

  -- adding one letter stores one sum
  pub added_one :
      (xs : List A) (at : ℕ) (y : A) → added 𝓐 xs at (y ∷ []) ≡ set xs at (𝓐.plus (get_or xs at 𝓐.none) y)
  unfolding added xored
  added_one [] zero y = refl
  added_one [] (suc at) y = refl
  added_one (x ∷ []) zero y = refl
  added_one (x ∷ (x' ∷ xs)) zero y = refl
  added_one (x ∷ xs) (suc at) y = ap (λ l. x ∷ l) (added_one xs at y)

  -- two runs added one after the other: each letter has both runs' letters added
  pub added_both :
      (xs : List A) (a b : ℕ) (ys zs : List A) (i : ℕ) → i < length xs
      → get_or (added 𝓐 (added 𝓐 xs a ys) b zs) i 𝓐.none
      ≡ 𝓐.plus
      (𝓐.plus (get_or xs i 𝓐.none) (letter 𝓐.none ys 0 (length ys) (i + 1 - a)))
      (letter 𝓐.none zs 0 (length zs) (i + 1 - b))
  added_both xs a b ys zs i l =
      added_at (added 𝓐 xs a ys) b zs i (rw length_added l)
      ∙ ap (λ x. 𝓐.plus x (letter 𝓐.none zs 0 (length zs) (i + 1 - b))) (added_at xs a ys i l)

  length_both : (xs : List A) (a b : ℕ) (ys zs : List A) → length (added 𝓐 (added 𝓐 xs a ys) b zs) ≡ length xs
  length_both xs a b ys zs = length_added (added 𝓐 xs a ys) b zs ∙ length_added xs a ys

  -- the letter at a place of two lists in a row is one or the other's
  pub letter_append :
      (ys zs : List A) (p : ℕ)
      → letter 𝓐.none (ys ++ zs) 0 (length (ys ++ zs)) p
      ≡ 𝓐.plus (letter 𝓐.none ys 0 (length ys) p) (letter 𝓐.none zs 0 (length zs) (p - length ys))
  letter_append ys zs zero =
      letter_zero 𝓐.none (ys ++ zs) 0 (length (ys ++ zs)) 0 refl
      ∙ sym (𝓐.plus_none 𝓐.none)
      ∙ ap₂ 𝓐.plus (sym (letter_zero 𝓐.none ys 0 (length ys) 0 refl))
      (sym (letter_zero 𝓐.none zs 0 (length zs) (0 - length ys) (omega arith)))
  letter_append ys zs (suc q) =
      letter_of_all 𝓐.none (ys ++ zs) q (suc q) (omega arith)
      ∙ ⊎_elim
      (λ h.
      ap (λ i. get_or (ys ++ zs) i 𝓐.none) (back (length ys) q h)
      ∙ get_or-append-add ys zs (q - length ys) 𝓐.none
      ∙ sym (letter_of_all 𝓐.none zs (q - length ys) (suc q - length ys) (omega arith))
      ∙ sym (none_plus 𝓐 (letter 𝓐.none zs 0 (length zs) (suc q - length ys)))
      ∙ ap (λ x. 𝓐.plus x (letter 𝓐.none zs 0 (length zs) (suc q - length ys)))
      (sym (letter_above 𝓐.none ys 0 (length ys) (suc q) (omega arith))))
      (λ h.
      get_or-append ys zs 𝓐.none q h
      ∙ sym (𝓐.plus_none (get_or ys q 𝓐.none))
      ∙ ap₂ 𝓐.plus (sym (letter_of_all 𝓐.none ys q (suc q) (omega arith)))
      (sym (letter_zero 𝓐.none zs 0 (length zs) (suc q - length ys) (omega arith))))
      (le_or_lt (length ys) q)
    where
      back : (n q : ℕ) → n ≤ q → q ≡ n + (q - n)
      back n q h = omega arith

  -- a run in two parts, one part after the other
  pub added_append :
      (xs : List A) (at : ℕ) (ys zs : List A) → added 𝓐 xs at (ys ++ zs) ≡ added 𝓐 (added 𝓐 xs at ys) (at + length ys) zs
  added_append xs at ys zs =
      agree xs (added 𝓐 xs at (ys ++ zs)) (added 𝓐 (added 𝓐 xs at ys) (at + length ys) zs) (length_added xs at (ys ++ zs))
      (length_both xs at (at + length ys) ys zs)
      (λ i l.
      added_at xs at (ys ++ zs) i l
      ∙ ap (𝓐.plus (get_or xs i 𝓐.none)) (letter_append ys zs (i + 1 - at))
      ∙ sym
      (𝓐.assoc (get_or xs i 𝓐.none) (letter 𝓐.none ys 0 (length ys) (i + 1 - at))
      (letter 𝓐.none zs 0 (length zs) (i + 1 - at - length ys)))
      ∙ ap
      (λ p.
      𝓐.plus (𝓐.plus (get_or xs i 𝓐.none) (letter 𝓐.none ys 0 (length ys) (i + 1 - at)))
      (letter 𝓐.none zs 0 (length zs) p))
      (further i at (length ys))
      ∙ sym (added_both xs at (at + length ys) ys zs i l))
    where
      further : (i at n : ℕ) → i + 1 - at - n ≡ i + 1 - (at + n)
      further i at n = omega arith

  -- one letter more of a run, as a loop adds it
  pub added_next :
      (xs : List A) (at : ℕ) (ys : List A) (i : ℕ) → i < length ys
      → added 𝓐 xs at (take (i + 1) ys)
      ≡ set (added 𝓐 xs at (take i ys)) (at + i)
      (𝓐.plus (get_or (added 𝓐 xs at (take i ys)) (at + i) 𝓐.none) (get_or ys i 𝓐.none))
  added_next xs at ys i h =
      rw (add-one, take-suc ys i 𝓐.none)
      (added_append xs at (take i ys) (get_or ys i 𝓐.none ∷ [])
      ∙ rw (length-take-le i ys (omega arith)) (added_one (added 𝓐 xs at (take i ys)) (at + i) (get_or ys i 𝓐.none)))

  -- a part more of a run, from where it came to
  pub added_on :
      (xs : List A) (at : ℕ) (ys : List A) (i c : ℕ) → i ≤ length ys
      → added 𝓐 (added 𝓐 xs at (take i ys)) (at + i) (take c (drop i ys)) ≡ added 𝓐 xs at (take (i + c) ys)
  added_on xs at ys i c h =
      sym (rw (take-add i c ys) (added_append xs at (take i ys) (take c (drop i ys)) ∙ rw (length-take-le i ys h) refl))

  -- the same, as one step follows another
  pub added_then :
      (xs ys zs : List A) (at : ℕ) (run : List A) (i c : ℕ) → i ≤ length run → ys ≡ added 𝓐 xs at (take i run)
      → zs ≡ added 𝓐 ys (at + i) (take c (drop i run)) → zs ≡ added 𝓐 xs at (take (i + c) run)
  added_then xs ys zs at run i c h before step = step ∙ rw before (added_on xs at run i c h)

  -- the same of a run that begins at its letter s
  pub added_further :
      (xs ys zs : List A) (at : ℕ) (run : List A) (s n c : ℕ) → s + n ≤ length run → ys ≡ added 𝓐 xs (at + s) (take n (drop s run))
      → zs ≡ added 𝓐 ys (at + (s + n)) (take c (drop (s + n) run)) → zs ≡ added 𝓐 xs (at + s) (take (n + c) (drop s run))
  added_further xs ys zs at run s n c h before step =
      added_then xs ys zs (at + s) (drop s run) n c (simp length-drop (omega arith)) before
      (step ∙ ap₂ (added 𝓐 ys) (sym (add_assoc at s n)) (ap (take c) (sym (drop-drop n s run))))

  -- and the rest of it at last
  pub added_whole :
      (xs ys zs : List A) (at : ℕ) (run : List A) (i : ℕ) → i ≤ length run → ys ≡ added 𝓐 xs at (take i run)
      → zs ≡ added 𝓐 ys (at + i) (drop i run) → zs ≡ added 𝓐 xs at run
  added_whole xs ys zs at run i h before step =
      step
      ∙ ap (λ l. added 𝓐 l (at + i) (drop i run)) before
      ∙ ap (λ n. added 𝓐 (added 𝓐 xs at (take i run)) (at + n) (drop i run)) (sym (length-take-le i run h))
      ∙ sym (added_append xs at (take i run) (drop i run))
      ∙ ap (added 𝓐 xs at) (take-append-drop i run)

  front_xored : (xs : List A) (n : ℕ) (ys : List A) → length ys ≤ n → xored 𝓐 (take n xs) ys ++ drop n xs ≡ xored 𝓐 xs ys
  unfolding xored
  front_xored [] zero ys h = refl
  front_xored [] (suc n) ys h = refl
  front_xored (x ∷ xs) zero [] h = refl
  front_xored (x ∷ xs) (suc n) [] h = ap (λ l. x ∷ l) (take-append-drop n xs)
  front_xored (x ∷ xs) zero (y ∷ ys) h = absurd (omega arith)
  front_xored (x ∷ xs) (suc n) (y ∷ ys) h = ap (λ l. 𝓐.plus x y ∷ l) (front_xored xs n ys (omega arith))

  -- a run that lies in the front of a list is added into the front alone
  pub added_front :
      (xs : List A) (n at : ℕ) (ys : List A) → at + length ys ≤ n → added 𝓐 (take n xs) at ys ++ drop n xs ≡ added 𝓐 xs at ys
  unfolding added xored
  added_front xs n zero ys h = front_xored xs n ys (omega arith)
  added_front [] zero (suc at) ys h = refl
  added_front [] (suc n) (suc at) ys h = refl
  added_front (x ∷ xs) zero (suc at) ys h = absurd (omega arith)
  added_front (x ∷ xs) (suc n) (suc at) ys h = ap (λ l. x ∷ l) (added_front xs n at ys (omega arith))
