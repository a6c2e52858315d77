-- Runs, lists one after another and moved sequences are linear: those of an XOR are the XOR of theirs.
use mathlib.Core.Path.{◌≡◌, refl, sym, ap, ap₂, ◌∙◌}
use mathlib.Core.Bool.{Bool, true, false, cond}
use mathlib.Core.List.{List, [], ◌∷◌, ◌++◌}
use mathlib.Core.Logic.{⊎_elim}
use Prim.Native.Nat.{ℕ, zero, suc, ◌+◌, ◌-◌, ◌*◌}
use native.Mathlib.Omega.{arith}
use lib.ListN.{length, get_or, length-append, get_or-eq_default}
use Rattle.letters.specs.Algebra.{Adding}
use Rattle.letters.specs.Places.{inside, letter}
use Rattle.letters.specs.Runs.{xored}
use Rattle.letters.proofs.Cases.{le_or_lt}
use Rattle.letters.proofs.Runs.{length_xored, get_d_xored}
use Rattle.letters.proofs.Sums.{sum_plus, sum_same}
use Rattle.system.specs.System.{part, sequence}
use Rattle.sequences.specs.Lists.{run, joined}
use Rattle.sequences.specs.Moved.{moved}
use Rattle.sequences.specs.Parts.{parts_of}
use Rattle.sequences.proofs.Lists.{length_run, run_same, joined_same}

module _ {A : Type 0} (𝓐 : Adding A) where
  xored_append :
      (xs ys xs' ys' : List A) → length xs ≡ length xs' → xored 𝓐 (xs ++ ys) (xs' ++ ys') ≡ xored 𝓐 xs xs' ++ xored 𝓐 ys ys'
  unfolding xored
  xored_append [] ys [] ys' e = refl
  xored_append [] ys (x' ∷ xs') ys' e = absurd (omega arith)
  xored_append (x ∷ xs) ys [] ys' e = absurd (omega arith)
  xored_append (x ∷ xs) ys (x' ∷ xs') ys' e = ap (λ l. 𝓐.plus x x' ∷ l) (xored_append xs ys xs' ys' (omega arith))

  pub run_xored : (n : ℕ) (f f' : ℕ → A) → run n (λ p. 𝓐.plus (f p) (f' p)) ≡ xored 𝓐 (run n f) (run n f')
  unfolding run xored
  run_xored zero f f' = refl
  run_xored (suc n) f f' =
      ap (λ l. l ++ (𝓐.plus (f (suc n)) (f' (suc n)) ∷ [])) (run_xored n f f')
      ∙ sym (xored_append (run n f) (f (suc n) ∷ []) (run n f') (f' (suc n) ∷ []) (length_run n f ∙ sym (length_run n f')))

  -- so a run whose letters are sums is the XOR of two
  pub runs_linear :
      (n : ℕ) (f a b : ℕ → A) → ((p : ℕ) → f p ≡ 𝓐.plus (a p) (b p)) → run n f ≡ xored 𝓐 (run n a) (run n b)
  runs_linear n f a b e = run_same 𝓐.none n f (λ p. 𝓐.plus (a p) (b p)) (λ p lo hi. e p) ∙ run_xored n a b

  pub same_lengths : (n : ℕ) (F F' : ℕ → List A) → ((j : ℕ) → length (F j) ≡ length (F' j)) → length (joined n F) ≡ length (joined n F')
  unfolding joined
  same_lengths zero F F' e = refl
  same_lengths (suc n) F F' e =
      length-append (joined n F) (F (suc n)) ∙ ap₂ ◌+◌ (same_lengths n F F' e) (e (suc n)) ∙ sym (length-append (joined n F') (F' (suc n)))

  pub joined_xored :
      (n : ℕ) (F F' : ℕ → List A) → ((j : ℕ) → length (F j) ≡ length (F' j))
      → joined n (λ j. xored 𝓐 (F j) (F' j)) ≡ xored 𝓐 (joined n F) (joined n F')
  unfolding joined xored
  joined_xored zero F F' e = refl
  joined_xored (suc n) F F' e =
      ap (λ l. l ++ xored 𝓐 (F (suc n)) (F' (suc n))) (joined_xored n F F' e)
      ∙ sym (xored_append (joined n F) (F (suc n)) (joined n F') (F' (suc n)) (same_lengths n F F' e))

  -- letter by letter, at every place of a run
  pub letter_of_xored :
      (xs xs' : List A) (start n p : ℕ) → length xs ≡ length xs'
      → letter 𝓐.none (xored 𝓐 xs xs') start n p ≡ 𝓐.plus (letter 𝓐.none xs start n p) (letter 𝓐.none xs' start n p)
  unfolding letter
  letter_of_xored xs xs' start n p e = go (inside n p)
    where
      at : (i : ℕ) → get_or (xored 𝓐 xs xs') i 𝓐.none ≡ 𝓐.plus (get_or xs i 𝓐.none) (get_or xs' i 𝓐.none)
      at i =
          ⊎_elim
          (λ past.
          get_or-eq_default (xored 𝓐 xs xs') 𝓐.none (rw length_xored past)
          ∙ sym (𝓐.plus_none 𝓐.none)
          ∙ ap₂ 𝓐.plus (sym (get_or-eq_default xs 𝓐.none past)) (sym (get_or-eq_default xs' 𝓐.none (rw e at past))))
          (λ h. get_d_xored 𝓐 xs xs' i h)
          (le_or_lt (length xs) i)

      go :
          (b : Bool)
          → cond b (get_or (xored 𝓐 xs xs') (start + (p - 1)) 𝓐.none) 𝓐.none
          ≡ 𝓐.plus (cond b (get_or xs (start + (p - 1)) 𝓐.none) 𝓐.none) (cond b (get_or xs' (start + (p - 1)) 𝓐.none) 𝓐.none)
      go true = at (start + (p - 1))
      go false = sym (𝓐.plus_none 𝓐.none)

  -- sums of moved sequences
  pub moved_plus :
      (s : ℕ) (shift : ℕ → ℕ) (x x' : ℕ → ℕ → A) (p : ℕ)
      → moved 𝓐 s shift (λ u q. 𝓐.plus (x u q) (x' u q)) p ≡ 𝓐.plus (moved 𝓐 s shift x p) (moved 𝓐 s shift x' p)
  unfolding moved
  moved_plus s shift x x' p = sum_plus 𝓐 s (λ u. x u (p - shift u)) (λ u. x' u (p - shift u))

  pub moved_same :
      (s : ℕ) (shift : ℕ → ℕ) (x x' : ℕ → ℕ → A) (p : ℕ) → ((u q : ℕ) → x u q ≡ x' u q) → moved 𝓐 s shift x p ≡ moved 𝓐 s shift x' p
  unfolding moved
  moved_same s shift x x' p e = sum_same 𝓐 s (λ u. x u (p - shift u)) (λ u. x' u (p - shift u)) (λ u lo hi. e u (p - shift u))

  -- and a system's equations
  module _ (s n : ℕ) (t : ℕ → ℕ → ℕ) (xs xs' : List A) (same_length : length xs ≡ length xs') where
    pub part_linear :
        (b p : ℕ)
        → part 𝓐 s t (sequence 𝓐.none (xored 𝓐 xs xs') n) b p
        ≡ 𝓐.plus (part 𝓐 s t (sequence 𝓐.none xs n) b p) (part 𝓐 s t (sequence 𝓐.none xs' n) b p)
    unfolding part sequence
    part_linear b p =
        sum_same 𝓐 s (λ a. at (xored 𝓐 xs xs') a) (λ a. 𝓐.plus (at xs a) (at xs' a))
        (λ a lo hi. letter_of_xored xs xs' ((a - 1) * n) n ((p + t b b) - t b a) same_length)
        ∙ sum_plus 𝓐 s (at xs) (at xs')
      where
        at : List A → ℕ → A
        at zs a = letter 𝓐.none zs ((a - 1) * n) n ((p + t b b) - t b a)

    pub parts_linear : parts_of 𝓐 s n t (xored 𝓐 xs xs') ≡ xored 𝓐 (parts_of 𝓐 s n t xs) (parts_of 𝓐 s n t xs')
    unfolding parts_of
    parts_linear =
        joined_same s (part_run (xored 𝓐 xs xs')) (λ b. xored 𝓐 (part_run xs b) (part_run xs' b))
        (λ b lo hi. runs_linear n (piece (xored 𝓐 xs xs') b) (piece xs b) (piece xs' b) (part_linear b))
        ∙ joined_xored s (part_run xs) (part_run xs') (λ b. length_run n (piece xs b) ∙ sym (length_run n (piece xs' b)))
      where
        piece : List A → ℕ → ℕ → A
        piece zs b = part 𝓐 s t (sequence 𝓐.none zs n) b

        part_run : List A → ℕ → List A
        part_run zs b = run n (piece zs b)
