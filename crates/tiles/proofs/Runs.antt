-- Laws of a tile's runs and of what is read from before it: which letter of its sequence each is, and that nothing else opens the definitions.
use mathlib.Core.Path.{◌≡◌, sym, ap, ◌∙◌}
use mathlib.Core.List.{List}
use mathlib.Core.Logic.{◌⊎◌, ⊎_elim}
use Prim.Native.Nat.{ℕ, ◌+◌, ◌-◌, ◌*◌, ◌≤◌, ◌<◌}
use native.Mathlib.Omega.{arith}
use lib.ListN.{get_or}
use borrow.Author.Tests.{le-leb, lt-leb}
use Rattle.letters.specs.Places.{letter}
use Rattle.letters.proofs.Cases.{le_or_lt}
use Rattle.letters.proofs.Places.{place_cases, inside_true, inside_below, inside_above, letter_inside, letter_zero, letter_above}
use Rattle.system.specs.System.{sequence, Sequences}
use Rattle.system.specs.Order.{delay}
use Rattle.system.proofs.System.{sequence_inside}
use Rattle.tiles.specs.Even.{lag}
use Rattle.tiles.specs.Tile.{run_of, start_of, read_before, WithinTile}

module _ {A : Type 0} (none : A) (t : ℕ → ℕ → ℕ) (done m : ℕ) (x : ℕ → ℕ → A) (b p : ℕ) where
  pub run_inside : 1 ≤ p → p ≤ m → run_of none t done m x b p ≡ x b ((done - delay t b) + p)
  unfolding run_of
  run_inside lo hi = simp (inside_true m p lo hi)

  pub run_zero : p ≡ 0 → run_of none t done m x b p ≡ none
  unfolding run_of
  run_zero e = simp (inside_below m p e)

  pub run_above : m < p → run_of none t done m x b p ≡ none
  unfolding run_of
  run_above h = simp (inside_above m p h)

-- in a buffer of sequences, the run of rank b is one of the buffer, if it lies inside its sequence
pub run_letter_lem :
    {A : Type 0} (none : A) (xs : List A) (n : ℕ) (t : ℕ → ℕ → ℕ) (done m b p : ℕ) → (done - delay t b) + m ≤ n
    → run_of none t done m (sequence none xs n) b p ≡ letter none xs (start_of t n done b) m p
run_letter_lem none xs n t done m b p fits =
    ⊎_elim
    (λ w.
    run_inside none t done m (sequence none xs n) b p w.0 w.1
    ∙ sequence_inside none xs n b ((done - delay t b) + p) (omega arith) (omega arith)
    ∙ ap (λ i. get_or xs i none) (index ((b - 1) * n) (done - delay t b) p w.0)
    ∙ sym (letter_inside none xs (start_of t n done b) m p w.0 w.1))
    (λ out.
    ⊎_elim
    (λ z. run_zero none t done m (sequence none xs n) b p z ∙ sym (letter_zero none xs (start_of t n done b) m p z))
    (λ a. run_above none t done m (sequence none xs n) b p a ∙ sym (letter_above none xs (start_of t n done b) m p a)) out)
    (place_cases m p)
  where
    index : (row from p : ℕ) → 1 ≤ p → row + ((from + p) - 1) ≡ (row + from) + (p - 1)
    index row from p h = omega arith

module _ {A : Type 0} (none : A) (t : ℕ → ℕ → ℕ) (done : ℕ) (x : ℕ → ℕ → A) (b p a : ℕ) where
  -- up to the lag the letter is one from before the tile,
  pub before_early : p ≤ lag t b a → read_before none t done x b p a ≡ x a (((done + p) - lag t b a) - delay t a)
  unfolding read_before
  before_early h = simp (le-leb p (lag t b a) h)

  -- and after it there is none
  pub before_late : lag t b a < p → read_before none t done x b p a ≡ none
  unfolding read_before
  before_late h = simp (lt-leb p (lag t b a) h)

  -- nor is there one where its place is outside 1..n
  pub before_outside :
      (n : ℕ) → Sequences none n x → (q : ℕ) → q ≡ ((done + p) - lag t b a) - delay t a → (q ≡ 0) ⊎ (n < q) → read_before none t done x b p a ≡ none
  before_outside n xs q e out =
      ⊎_elim
      (λ h.
      before_early h
      ∙ ap (x a) (sym e)
      ∙ ⊎_elim (λ z. ap (x a) z ∙ xs.nothing_below a) (λ above. xs.nothing_above a q above) out)
      before_late (le_or_lt p (lag t b a))

-- two families of sequences that agree inside 1..n at a place agree there
pub agree_at :
    {A : Type 0} (none : A) (n : ℕ) (x x' : ℕ → ℕ → A) → Sequences none n x → Sequences none n x' → (a q : ℕ)
    → (1 ≤ q → q ≤ n → x' a q ≡ x a q) → x' a q ≡ x a q
agree_at none n x x' xs xs' a q inner =
    ⊎_elim (λ w. inner w.0 w.1)
    (λ out.
    ⊎_elim (λ z. ap (x' a) z ∙ xs'.nothing_below a ∙ sym (ap (x a) z ∙ xs.nothing_below a))
    (λ h. xs'.nothing_above a q h ∙ sym (xs.nothing_above a q h)) out)
    (place_cases n q)

-- what changes in a tile alone is the same before it
pub before_same :
    {A : Type 0} (none : A) (s n : ℕ) (t : ℕ → ℕ → ℕ) (done m below hi : ℕ) (x x' : ℕ → ℕ → A) → Sequences none n x → Sequences none n x'
    → WithinTile s n t done m below hi x x' → (b p a : ℕ) → 1 ≤ a → a ≤ s → read_before none t done x' b p a ≡ read_before none t done x b p a
before_same none s n t done m below hi x x' xs xs' within b p a la ha =
    ⊎_elim
    (λ h.
    before_early none t done x' b p a h
    ∙ agree_at none n x x' xs xs' a (((done + p) - lag t b a) - delay t a)
    (λ lo up. within a (((done + p) - lag t b a) - delay t a) la ha lo up (λ l r after upto. not_after done p (lag t b a) (delay t a) h lo after))
    ∙ sym (before_early none t done x b p a h))
    (λ h. before_late none t done x' b p a h ∙ sym (before_late none t done x b p a h)) (le_or_lt p (lag t b a))
  where
    not_after : (done p l d : ℕ) → p ≤ l → 1 ≤ ((done + p) - l) - d → done < d + (((done + p) - l) - d) → ⊥
    not_after done p l d h lo after = omega arith
