-- A run of a buffer that is added to earlier letters of the same buffer: it is as it came at every turn, since it starts past the end of the other.
use mathlib.Core.Path.{◌≡◌, refl, sym, ap, ◌∙◌}
use mathlib.Core.List.{List, [], ◌∷◌}
use Prim.Native.Nat.{ℕ, zero, suc, ◌≤◌, ◌<◌, ◌+◌}
use native.Mathlib.Omega.{arith}
use lib.ListN.{length, get_or, set, take, drop, length-take, length-drop}
use lib.Bits.{bit_xor}
use lib.Seq.{take-take, drop-drop, drop-cons}
use Rattle.letters.specs.Algebra.{xors}
use Rattle.letters.specs.Runs.{added}
use Rattle.letters.proofs.Runs.{length_added, added_one, added_on}
use Rattle.runs.proofs.Added.{drop_added}

-- a part of a list's beginning is that part of the list
within_part : (xs : List ℕ) (n i c : ℕ) → i + c ≤ n → take c (drop i (take n xs)) ≡ take c (drop i xs)
within_part xs n zero c h = take-take c n xs (omega arith)
within_part xs zero (suc i) c h = absurd (omega arith)
within_part [] (suc n) (suc i) c h = refl
within_part (x ∷ xs) (suc n) (suc i) c h = within_part xs n i c (omega arith)

-- the run that is added
abbrev pub run : List ℕ → ℕ → ℕ → List ℕ
run buffer from count = take count (drop from buffer)

-- the buffer once the first i letters of the run are in
abbrev pub after : List ℕ → ℕ → ℕ → ℕ → ℕ → List ℕ
after xs to from count i = added xors xs to (take i (run xs from count))

module _ (xs : List ℕ) (to from count : ℕ) (apart : to + count ≤ from) (fits : from + count ≤ length xs) where
  pub long : length (run xs from count) ≡ count
  long = simp (length-take, length-drop) (omega arith)

  -- the beginning of the run is in: a part of it, and of the buffer
  pub begun : (ys : List ℕ) (i : ℕ) → i ≤ count → ys ≡ added xors xs to (take i (drop from xs)) → ys ≡ after xs to from count i
  begun ys i h e = e ∙ ap (added xors xs to) (sym (take-take i count (drop from xs) h))

  pub ended : (ys : List ℕ) (i : ℕ) → i ≤ count → ys ≡ after xs to from count i → ys ≡ added xors xs to (take i (drop from xs))
  ended ys i h e = e ∙ ap (added xors xs to) (take-take i count (drop from xs) h)

  -- the part that a turn reads still is as it came
  kept : (i c : ℕ) → i + c ≤ count → take c (drop (from + i) (after xs to from count i)) ≡ take c (drop i (run xs from count))
  kept i c h =
      ap (take c) (drop_added xors xs to (take i (run xs from count)) (from + i) (simp length-take (omega (arith, long))))
      ∙ sym (ap (take c) (drop-drop i from xs))
      ∙ sym (within_part (drop from xs) count i c h)

  -- a part more
  pub on :
      (i c : ℕ) → i + c ≤ count
      → added xors (after xs to from count i) (to + i) (take c (drop (from + i) (after xs to from count i))) ≡ after xs to from count (i + c)
  on i c h = rw (kept i c h) (added_on xors xs to (run xs from count) i c (omega (arith, long)))

  -- the same, as one step follows another
  pub then :
      (ys zs : List ℕ) (i c : ℕ) → i + c ≤ count → ys ≡ after xs to from count i
      → zs ≡ added xors ys (to + i) (take c (drop (from + i) ys)) → zs ≡ after xs to from count (i + c)
  then ys zs i c h before step = step ∙ rw before (on i c h)

  -- a letter more, as a loop adds it
  pub next :
      (i : ℕ) → i < count
      → set (after xs to from count i) (to + i)
      (bit_xor (get_or (after xs to from count i) (to + i) 0) (get_or (after xs to from count i) (from + i) 0))
      ≡ after xs to from count (i + 1)
  next i h =
      sym (added_one xors (after xs to from count i) (to + i) (get_or (after xs to from count i) (from + i) 0))
      ∙ ap (λ r. added xors (after xs to from count i) (to + i) (take 1 r))
      (sym (drop-cons (after xs to from count i) (from + i) 0 (rw length_added (omega arith))))
      ∙ on i 1 (omega arith)

  pub whole : after xs to from count count ≡ added xors xs to (run xs from count)
  whole = ap (λ r. added xors xs to r) (take-take count count (drop from xs) (omega arith))
