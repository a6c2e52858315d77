-- A run of a buffer that is added to later letters of the same buffer, from its last letters down: what is read is as it came at every turn, since it lies before all
-- that has changed.
use mathlib.Core.Path.{◌≡◌, sym, ap, ap₂, ◌∙◌}
use mathlib.Core.List.{List}
use mathlib.Core.Logic.{⊎_elim}
use Prim.Native.Nat.{ℕ, ◌+◌, ◌-◌, ◌*◌, ◌/◌, ◌%◌, ◌≤◌, ◌<◌}
use native.Mathlib.Nat.{div-add-mod', mul-mod_left, mod-one}
use native.Mathlib.Omega.{arith}
use lib.Bits.{bit_xor}
use lib.ListN.{length, get_or, take, drop, length-take, length-drop, get_or-eq_default}
use lib.Seq.{get_or-take, get_or-drop}
use Rattle.letters.specs.Algebra.{xors}
use Rattle.letters.specs.Runs.{added}
use Rattle.letters.specs.Laid.{Laid}
use Rattle.adding_after.specs.Added.{plus_from}
use Rattle.letters.specs.Steps.Rests.{left_over}
use Rattle.letters.proofs.Cases.{le_or_lt}
use Rattle.letters.proofs.Runs.{length_added, added_before, added_from, added_after}
use Rattle.letters.proofs.Rests.{no_block, one_block, block_fits}

-- a run of the buffer that is added into it, letter by letter
pub added_laid :
    (xs ys : List ℕ) (to from count : ℕ) → to + count ≤ length xs → from + count ≤ length xs
    → ys ≡ added xors xs to (take count (drop from xs)) → Laid xs ys to (to + count) (plus_from xs to from)
added_laid xs ys to from count fits there e =
    record {
      same_length = ap length e ∙ length_added xors xs to run;
      before = λ p h. ap (λ l. get_or l p 0) e ∙ added_before xors xs to run p h;
      laid =
          λ p lo hi.
          ap (λ l. get_or l p 0) e
          ∙ added_from xors xs to run p lo (omega arith)
          ∙ ap (bit_xor (get_or xs p 0)) (get_or-take count (drop from xs) (p - to) 0 (omega arith) ∙ get_or-drop from xs (p - to) 0);
      after =
          λ p h.
          ap (λ l. get_or l p 0) e
          ∙ ⊎_elim
          (λ past. get_or-eq_default (added xors xs to run) 0 (rw length_added past) ∙ sym (get_or-eq_default xs 0 past))
          (λ inside. added_after xors xs to run p (omega (arith, long)) inside)
          (le_or_lt (length xs) p);
    }
  where
    run : List ℕ
    run = take count (drop from xs)

    long : length run ≡ count
    long = simp (length-take, length-drop) (omega arith)

-- a part more, before the one that is laid
pub laid_below :
    (xs ys zs : List ℕ) (a b c : ℕ) (f g : ℕ → ℕ) → a ≤ b → b ≤ c → Laid xs ys b c f → Laid ys zs a b g → ((p : ℕ) → a ≤ p → p < b → g p ≡ f p)
    → Laid xs zs a c f
laid_below xs ys zs a b c f g order same_distance v w same =
    record {
      same_length = w.same_length ∙ v.same_length;
      before = λ p h. w.before p h ∙ v.before p (omega arith);
      laid = λ p lo hi. ⊎_elim (λ later. w.after p later ∙ v.laid p later hi) (λ earlier. w.laid p lo earlier ∙ same p lo earlier) (le_or_lt b p);
      after = λ p h. w.after p (omega arith) ∙ v.after p h;
    }

-- where a letter stands in a run and in its part from i on
same_distance : (from to i p : ℕ) → to + i ≤ p → from + i + (p - (to + i)) ≡ from + (p - to)
same_distance from to i p h = omega arith

-- the letters from `left` on are in: a part more, which reads what came
pub laid_down :
    (xs ys zs : List ℕ) (to from i left count : ℕ) → from ≤ to → i ≤ left → left ≤ count
    → Laid xs ys (to + left) (to + count) (plus_from xs to from) → Laid ys zs (to + i) (to + left) (plus_from ys to from)
    → Laid xs zs (to + i) (to + count) (plus_from xs to from)
laid_down xs ys zs to from i left count order fewer few v w =
    laid_below xs ys zs (to + i) (to + left) (to + count) (plus_from xs to from) (plus_from ys to from) (omega arith) (omega arith) v w
    (λ p lo hi. ap₂ bit_xor (v.before p (omega arith)) (v.before (from + (p - to)) (omega arith)))

-- a block of it, as it is added
pub block_down :
    (xs ys : List ℕ) (to from i width left : ℕ) → from ≤ to → left ≡ i + width → to + left ≤ length xs
    → ys ≡ added xors xs (to + i) (take width (drop (from + i) xs)) → Laid xs ys (to + i) (to + left) (plus_from xs to from)
block_down xs ys to from i width left order e fits step =
    let block = added_laid xs ys (to + i) (from + i) width (omega arith) (omega arith) step in
    let end : to + left ≡ to + i + width = omega arith in
    rw end (record {
      same_length = block.same_length;
      before = block.before;
      laid = λ p lo hi. block.laid p lo hi ∙ ap (λ q. bit_xor (get_or xs p 0) (get_or xs q 0)) (same_distance from to i p lo);
      after = block.after;
    })

-- what blocks leave over: nothing, and blocks twice as wide leave nothing or a block
pub none_odd : (n : ℕ) → left_over n 1 ≡ 0
unfolding left_over
none_odd n = mod-one n

pub still_none : (n width : ℕ) → left_over n width ≡ 0 → n % (width + width) < width → left_over n (width + width) ≡ 0
still_none n width e h = sym (no_block n width 0 (sym e) h)

pub block_there : (n width : ℕ) → 0 < width → left_over n width ≡ 0 → width ≤ n % (width + width) → width ≤ n
block_there n width some e h = omega (arith, block_fits n width 0 some (sym e) h)

pub none_then : (n width : ℕ) → 0 < width → left_over n width ≡ 0 → width ≤ n % (width + width) → left_over (n - width) (width + width) ≡ 0
unfolding left_over
none_then n width some e h =
    ap (λ m. m % (width + width)) (less (n / (width + width) * (width + width)) (n % (width + width)) (div-add-mod' n (width + width)) (sym (one_block n width 0 some (sym e) h)))
    ∙ mul-mod_left (n / (width + width)) (width + width)
  where
    less : (m r : ℕ) → m + r ≡ n → r ≡ 0 + width → n - width ≡ m
    less m r all over = omega arith
