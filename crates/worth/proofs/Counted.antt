-- Zeros of a run, one letter or one part more.
use mathlib.Core.Path.{◌≡◌, refl, sym, ap, subst, ◌∙◌}
use mathlib.Core.List.{List}
use Prim.Native.Nat.{ℕ, ◌+◌, ◌-◌, ◌%◌, ◌≤◌, ◌<◌}
use native.Mathlib.Nat.{zero-add, add-zero, sub-zero}
use native.Mathlib.Omega.{arith}
use lib.ListN.{take, drop, length, get_or}
use Rattle.letters.specs.Steps.Rests.{left_over}
use Rattle.letters.proofs.Rests.{no_block, one_block}
use Rattle.worth.specs.Worth.{worth_in}
use Rattle.worth.specs.Steps.Zeros.{Zeros}
use Rattle.worth.proofs.Worth.{worth_of_zero, worth_of_one, worth_in_none, worth_in_more, worth_in_join, slice_size, worth_of_slice}

pub leftover : (n width : ℕ) → left_over n width ≡ n % width
unfolding left_over
leftover n width = refl

module _ (xs : List ℕ) where
  pub none_yet : Zeros xs 0 0 0
  none_yet = record { all = omega (arith, worth_in_none xs 0) }

  pub zero_next : (n zeros : ℕ) → Zeros xs 0 n zeros → get_or xs n 0 ≡ 0 → Zeros xs 0 (n + 1) (zeros + 1)
  zero_next n zeros z e =
      record { all = omega (arith, z.all, worth_in_more xs 0 n, worth_of_zero (get_or xs (0 + n) 0) (ap (λ i. get_or xs i 0) (zero-add n) ∙ e)) }

  pub other_next : (n zeros : ℕ) → Zeros xs 0 n zeros → (get_or xs n 0 ≡ 0 → ⊥) → Zeros xs 0 (n + 1) zeros
  other_next n zeros z ne =
      record { all = omega (arith, z.all, worth_in_more xs 0 n, worth_of_one (get_or xs (0 + n) 0) (λ e. ne (ap (λ i. get_or xs i 0) (sym (zero-add n)) ∙ e))) }

  -- the zeros of a part that is lent as a slice of its own, from index s up to index e
  pub lent :
      (s n e zeros : ℕ) → e ≡ s + n → e ≤ length xs → Zeros (take (e - s) (drop s xs)) 0 (length (take (e - s) (drop s xs))) zeros → Zeros xs s n zeros
  lent s n e zeros ends h z = record { all = omega (arith, z.all, slice_size xs s n e ends h, worth_of_slice xs s n e ends h) }

  -- those of the first n letters
  pub first : (n zeros : ℕ) → n ≤ length xs → Zeros (take n xs) 0 (length (take n xs)) zeros → Zeros xs 0 n zeros
  first n zeros h z = lent 0 n n zeros (omega arith) h (subst (λ m. Zeros (take m xs) 0 (length (take m xs)) zeros) (sym (sub-zero n)) z)

  pub part_next : (n m zeros more : ℕ) → Zeros xs 0 n zeros → Zeros xs n m more → Zeros xs 0 (n + m) (zeros + more)
  part_next n m zeros more z y = record { all = omega (arith, z.all, y.all, worth_in_join xs 0 n m, ap (λ i. worth_in xs i m) (zero-add n)) }

  -- blocks twice as wide leave as much over, or a block more
  pub rest_none : (n width zeros : ℕ) → n % (width + width) < width → Zeros xs 0 (left_over n width) zeros → Zeros xs 0 (left_over n (width + width)) zeros
  rest_none n width zeros h z =
      subst (λ m. Zeros xs 0 m zeros) (sym (add-zero (left_over n width)) ∙ no_block n width (left_over n width) refl h) z

  pub rest_more :
      (n width zeros more : ℕ) → 0 < width → width ≤ n % (width + width) → Zeros xs 0 (left_over n width) zeros → Zeros xs (n % width) width more
      → Zeros xs 0 (left_over n (width + width)) (zeros + more)
  rest_more n width zeros more some h z y =
      subst (λ m. Zeros xs 0 m (zeros + more)) (one_block n width (left_over n width) some refl h)
      (part_next (left_over n width) width zeros more z (subst (λ i. Zeros xs i width more) (sym (leftover n width)) y))

  -- all others count
  pub others : (n zeros : ℕ) → Zeros xs 0 n zeros → n - zeros ≡ worth_in xs 0 n
  others n zeros z = omega (arith, z.all)

  pub few : (n zeros : ℕ) → Zeros xs 0 n zeros → zeros ≤ n
  few n zeros z = omega (arith, z.all)
