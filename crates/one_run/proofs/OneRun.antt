-- What is laid into a buffer, said of one run of it: its places count from 1, and what lies before it is nothing.
use native.Mathlib.Omega.{arith}
use mathlib.Core.Path.{◌≡◌, refl, sym, ap, ap₂, ◌∙◌}
use mathlib.Core.List.{List, ◌++◌}
use mathlib.Core.Logic.{⊎_elim}
use Prim.Native.Nat.{ℕ, ◌+◌, ◌-◌, ◌≤◌, ◌<◌}
use lib.Bits.{bit_xor, xor_zero_r}
use lib.ListN.{length, get_or, take, drop, length-append, length-drop, length-take, get_or-append}
use lib.Seq.{get_or-take, get_or-drop, get_or-append-add, length-take-le}
use borrow.Rule.Slice.PartMut.{put_mid, post_of, Post-is}
use Rattle.std.proofs.lemmas.Slice.{drop-put_mid}
use Rattle.letters.specs.Laid.{Laid}
use Rattle.letters.specs.Places.{letter}
use Rattle.letters.proofs.Cases.{le_or_lt}
use Rattle.letters.proofs.Places.{letter_inside, letter_zero}
use Rattle.adding_after.specs.Added.{plus_from}
use Rattle.dividing.specs.Running.{RunningSum}
use Rattle.one_run.specs.Steps.Runs.{RunAdded, RunSummed}

-- a run that is moved by all of its letters or more adds nothing
pub added_nothing : (to from m d : ℕ) (xs : List ℕ) → m ≤ d → RunAdded to from m d xs xs
added_nothing to from m d xs h =
    record {
      only = record { same_length = refl; kept = λ i out. refl };
      added =
          λ p lo hi.
          sym (xor_zero_r (letter 0 xs to m p)) ∙ ap (bit_xor (letter 0 xs to m p)) (sym (letter_zero 0 xs from m (p - d) (omega arith)));
    }

-- the letters past those that it is moved by
pub laid_added :
    (to from m d : ℕ) (xs ys : List ℕ) → d < m → Laid xs ys (to + d) (to + d + (m - d)) (plus_from xs (to + d) from) → RunAdded to from m d xs ys
laid_added to from m d xs ys h w =
    record {
      only =
          record {
            same_length = w.same_length;
            kept = λ i out. ⊎_elim (λ past. w.after i (omega arith)) (λ early. w.before i (before i out early)) (le_or_lt (to + m) i);
          };
      added =
          λ p lo hi.
          letter_inside 0 ys to m p lo hi
          ∙ ⊎_elim
          (λ early.
          w.before (to + (p - 1)) (omega arith)
          ∙ sym (xor_zero_r (get_or xs (to + (p - 1)) 0))
          ∙ ap₂ bit_xor (sym (letter_inside 0 xs to m p lo hi)) (sym (letter_zero 0 xs from m (p - d) (omega arith))))
          (λ late.
          w.laid (to + (p - 1)) (omega arith) (omega arith)
          ∙ ap₂ bit_xor (sym (letter_inside 0 xs to m p lo hi))
          (ap (λ i. get_or xs i 0) (place p late) ∙ sym (letter_inside 0 xs from m (p - d) (omega arith) (omega arith))))
          (le_or_lt p d);
    }
  where
    before : (i : ℕ) → (to ≤ i → i < to + m → ⊥) → i < to + m → i < to + d
    before i out early = ⊎_elim (λ in_run. absurd (out in_run early)) (λ l. omega arith) (le_or_lt to i)

    place : (p : ℕ) → d < p → from + (to + (p - 1) - (to + d)) ≡ from + (p - d - 1)
    place p late = omega arith

-- a running sum from the first stride on
pub running_summed : (start m w : ℕ) (xs ys : List ℕ) → 1 ≤ w → RunningSum xs ys (start + w) (start + m) w → RunSummed start m w xs ys
running_summed start m w xs ys some s =
    record {
      only =
          record {
            same_length = s.same_length;
            kept = λ i out. ⊎_elim (λ past. s.after i past) (λ early. s.before i (before i out early)) (le_or_lt (start + m) i);
          };
      summed =
          λ p lo hi.
          letter_inside 0 ys start m p lo hi
          ∙ ⊎_elim
          (λ early.
          s.before (start + (p - 1)) (omega arith)
          ∙ sym (xor_zero_r (get_or xs (start + (p - 1)) 0))
          ∙ ap₂ bit_xor (sym (letter_inside 0 xs start m p lo hi)) (sym (letter_zero 0 ys start m (p - w) (omega arith))))
          (λ late.
          s.summed (start + (p - 1)) (omega arith) (omega arith)
          ∙ ap₂ bit_xor (sym (letter_inside 0 xs start m p lo hi))
          (ap (λ i. get_or ys i 0) (place p late) ∙ sym (letter_inside 0 ys start m (p - w) (omega arith) (omega arith))))
          (le_or_lt p w);
    }
  where
    before : (i : ℕ) → (start ≤ i → i < start + m → ⊥) → i < start + m → i < start + w
    before i out early = ⊎_elim (λ in_run. absurd (out in_run early)) (λ l. omega arith) (le_or_lt start i)

    place : (p : ℕ) → w < p → start + (p - 1) - w ≡ start + (p - w - 1)
    place p late = omega arith

-- a running sum of the run alone, lent as a slice of its own and back in its place, is one within the buffer
module _
    (start e w : ℕ) (xs ys : List ℕ) (order : start ≤ e) (fits : e ≤ length xs)
    (s : RunningSum (take (e - start) (drop start xs)) ys w (length (take (e - start) (drop start xs))) w) where
  back : List ℕ
  back = put_mid start (e - start) xs ys

  size : length (take (e - start) (drop start xs)) ≡ e - start
  size = omega (arith, length-take (e - start) (drop start xs), length-drop start xs)

  long : length ys ≡ e - start
  long = s.same_length ∙ size

  front : length (take start xs) ≡ start
  front = length-take-le start xs (omega arith)

  same_length : length back ≡ length xs
  unfolding back
  same_length =
      ap (λ z. length (take start xs ++ (ys ++ z))) (Post-is start e xs order)
      ∙ length-append (take start xs) (ys ++ drop e xs)
      ∙ omega (arith, front, length-append ys (drop e xs), length-drop e xs, long)

  outside_before : (p : ℕ) → p < start → get_or back p 0 ≡ get_or xs p 0
  unfolding back
  outside_before p h =
      get_or-append (take start xs) (ys ++ post_of start (e - start) xs) 0 p (omega (arith, front)) ∙ get_or-take start xs p 0 h

  inside : (q : ℕ) → q < e - start → get_or back (start + q) 0 ≡ get_or ys q 0
  unfolding back
  inside q h =
      ap (λ n. get_or back (n + q) 0) (sym front)
      ∙ get_or-append-add (take start xs) (ys ++ post_of start (e - start) xs) q 0
      ∙ get_or-append ys (post_of start (e - start) xs) 0 q (omega (arith, long))

  outside_after : (p : ℕ) → e ≤ p → get_or back p 0 ≡ get_or xs p 0
  unfolding back
  outside_after p h =
      ap (λ n. get_or back n 0) (sym (there p h))
      ∙ sym (get_or-drop e back (p - e) 0)
      ∙ ap (λ l. get_or l (p - e) 0) (drop-put_mid start (e - start) xs ys e (omega arith) (omega arith) long)
      ∙ get_or-drop e xs (p - e) 0
      ∙ ap (λ n. get_or xs n 0) (there p h)
    where
      there : (p : ℕ) → e ≤ p → e + (p - e) ≡ p
      there p h = omega arith

  at : (p : ℕ) → start ≤ p → start + (p - start) ≡ p
  at p lo = omega arith

  came : (p : ℕ) → start ≤ p → p < e → get_or (take (e - start) (drop start xs)) (p - start) 0 ≡ get_or xs p 0
  came p lo hi =
      get_or-take (e - start) (drop start xs) (p - start) 0 (omega arith) ∙ get_or-drop start xs (p - start) 0 ∙ ap (λ n. get_or xs n 0) (at p lo)

  becomes : (p : ℕ) → start ≤ p → p < e → get_or back p 0 ≡ get_or ys (p - start) 0
  becomes p lo hi = ap (λ n. get_or back n 0) (sym (at p lo)) ∙ inside (p - start) (omega arith)

  pub lent_summed : RunningSum xs (put_mid start (e - start) xs ys) (start + w) e w
  unfolding back
  lent_summed =
      record {
        same_length = same_length;
        before =
            λ p h.
            ⊎_elim
            (λ within.
            ⊎_elim
            (λ past. outside_after p past)
            (λ in_run. becomes p within in_run ∙ s.before (p - start) (omega arith) ∙ came p within in_run)
            (le_or_lt e p))
            (λ early. outside_before p early)
            (le_or_lt start p);
        summed =
            λ p lo hi.
            becomes p (omega arith) hi
            ∙ s.summed (p - start) (omega arith) (omega (arith, size))
            ∙ ap₂ bit_xor (came p (omega arith) hi)
            (ap (λ n. get_or ys n 0) (stride p lo) ∙ sym (becomes (p - w) (omega arith) (omega arith)));
        after = λ p h. outside_after p h;
      }
    where
      stride : (p : ℕ) → start + w ≤ p → p - start - w ≡ p - w - start
      stride p lo = omega arith
