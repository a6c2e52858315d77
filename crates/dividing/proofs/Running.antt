-- Laws of running sums: none, part after part, a block, a letter, and a stride twice as wide.
use mathlib.Core.Path.{◌≡◌, refl, sym, ap, ◌∙◌}
use mathlib.Core.List.{List}
use mathlib.Core.Logic.{⊎_elim}
use Prim.Native.Nat.{ℕ, zero, suc, ◌+◌, ◌-◌, ◌%◌, ◌≤◌, ◌<◌}
use native.Mathlib.Nat.{mod-eq_of_lt}
use native.Mathlib.Omega.{arith}
use lib.Bits.{bit_xor}
use lib.ListN.{length, get_or, take, drop}
use Rattle.letters.specs.Algebra.{xors}
use Rattle.letters.specs.Algebra.Xor.{xor_assoc}
use Rattle.letters.specs.Runs.{added}
use Rattle.letters.specs.Laid.{Laid}
use Rattle.adding_after.specs.Added.{plus_from}
use Rattle.letters.proofs.Cases.{le_or_lt}
use Rattle.adding_after.proofs.Downward.{added_laid}
use Rattle.letters.specs.Steps.Rests.{left_over}
use Rattle.dividing.specs.Running.{RunningSum}
use Rattle.dividing.specs.Steps.Widening.{step}

pub nothing_summed : (xs : List ℕ) (a b w : ℕ) → b ≤ a → RunningSum xs xs a b w
nothing_summed xs a b w order = record { same_length = refl; before = λ p h. refl; summed = λ p lo hi. absurd (omega arith); after = λ p h. refl }

-- up to the same index by another name
pub summed_until : (xs ys : List ℕ) (a b c w : ℕ) → c ≡ b → RunningSum xs ys a b w → RunningSum xs ys a c w
summed_until xs ys a b c w e s = rw e s

-- from the same index on, at the same stride, by other names
pub summed_as : (xs ys : List ℕ) (a b c d w v : ℕ) → c ≡ a → d ≡ b → v ≡ w → RunningSum xs ys a b w → RunningSum xs ys c d v
summed_as xs ys a b c d w v ea eb ew s = rw ea (rw eb (rw ew s))

-- one part more
pub summed_then :
    (xs ys zs : List ℕ) (a b c w : ℕ) → a ≤ b → b ≤ c → RunningSum xs ys a b w → RunningSum ys zs b c w → RunningSum xs zs a c w
summed_then xs ys zs a b c w order further s t =
    record {
      same_length = t.same_length ∙ s.same_length;
      before = λ p h. t.before p (omega arith) ∙ s.before p h;
      summed =
          λ p lo hi.
          ⊎_elim
          (λ later. t.summed p later hi ∙ ap (λ x. bit_xor x (get_or zs (p - w) 0)) (s.after p later))
          (λ earlier.
          t.before p earlier
          ∙ s.summed p lo earlier
          ∙ ap (bit_xor (get_or xs p 0)) (sym (t.before (p - w) (omega arith))))
          (le_or_lt b p);
      after = λ p h. t.after p h ∙ s.after p (omega arith);
    }

-- a block no wider than the stride, added at once
pub summed_block :
    (xs ys : List ℕ) (to from width end w : ℕ) → from + w ≡ to → width ≤ w → end ≡ to + width → end ≤ length xs
    → ys ≡ added xors xs to (take width (drop from xs)) → RunningSum xs ys to end w
summed_block xs ys to from width end w stride narrow e fits step =
    rw e (record {
      same_length = l.same_length;
      before = l.before;
      summed =
          λ p lo hi.
          l.laid p lo hi
          ∙ ap (bit_xor (get_or xs p 0)) (ap (λ q. get_or xs q 0) (back p lo) ∙ sym (l.before (p - w) (omega arith)));
      after = l.after;
    })
  where
    l : Laid xs ys to (to + width) (plus_from xs to from)
    l = added_laid xs ys to from width (omega arith) (omega arith) step

    back : (p : ℕ) → to ≤ p → from + (p - to) ≡ p - w
    back p lo = omega arith

-- 1 / (1 + D^w) is (1 + D^w) / (1 + D^2w): what sums the product at the stride 2w sums the run at the stride w
module _
    (xs ys zs : List ℕ) (w end : ℕ) (some : 0 < w) (l : Laid xs ys w end (plus_from xs w 0))
    (s : RunningSum ys zs (w + w) end (w + w)) where
  kept : (p : ℕ) → p < w → get_or zs p 0 ≡ get_or xs p 0
  kept p h = s.before p (omega arith) ∙ l.before p h

  product : (p : ℕ) → w ≤ p → p < end → get_or ys p 0 ≡ bit_xor (get_or xs p 0) (get_or xs (p - w) 0)
  product p lo hi = l.laid p lo hi ∙ ap (λ q. bit_xor (get_or xs p 0) (get_or xs q 0)) (back p lo)
    where
      back : (p : ℕ) → w ≤ p → 0 + (p - w) ≡ p - w
      back p lo = omega arith

  once : (k p : ℕ) → p < k → w ≤ p → p < end → get_or zs p 0 ≡ bit_xor (get_or xs p 0) (get_or zs (p - w) 0)
  once zero p h lo hi = absurd (omega arith)
  once (suc k) p h lo hi =
      ⊎_elim
      (λ far.
      s.summed p far hi
      ∙ ap (λ x. bit_xor x (get_or zs (p - (w + w)) 0)) (product p lo hi)
      ∙ xor_assoc (get_or xs p 0) (get_or xs (p - w) 0) (get_or zs (p - (w + w)) 0)
      ∙ ap (bit_xor (get_or xs p 0))
      (sym (once k (p - w) (omega arith) (omega arith) (omega arith) ∙ ap (λ q. bit_xor (get_or xs (p - w) 0) (get_or zs q 0)) (twice p))))
      (λ near. s.before p near ∙ product p lo hi ∙ ap (bit_xor (get_or xs p 0)) (sym (kept (p - w) (omega arith))))
      (le_or_lt (w + w) p)
    where
      twice : (p : ℕ) → p - w - w ≡ p - (w + w)
      twice p = omega arith

  pub summed_doubled : w ≤ end → RunningSum xs zs w end w
  summed_doubled order =
      record {
        same_length = s.same_length ∙ l.same_length;
        before = kept;
        summed = λ p lo hi. once (p + 1) p (omega arith) lo hi;
        after = λ p h. s.after p h ∙ l.after p h;
      }

-- steps leave all of it over where there is none
pub all_over : (n r : ℕ) → n < step → r ≡ left_over n step → n ≡ r
unfolding left_over
all_over n r h e = sym (e ∙ mod-eq_of_lt h)

-- whole steps
pub whole_steps : (n : ℕ) → left_over n step ≡ 0 → n % step ≡ 0
unfolding left_over
whole_steps n e = e

pub over_steps : (n i : ℕ) → i ≡ n % step → left_over (n - i) step ≡ 0
unfolding left_over
over_steps n i e = omega arith
