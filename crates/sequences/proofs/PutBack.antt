-- A part of a buffer that was lent and has come back: what lies before it and after it is as it was.
use mathlib.Core.Path.{◌≡◌, sym, ap, ◌∙◌}
use mathlib.Core.List.{List, ◌++◌, append_assoc}
use Prim.Native.Nat.{ℕ, ◌+◌, ◌-◌, ◌≤◌, ◌<◌}
use native.Mathlib.Omega.{arith}
use lib.ListN.{length, get_or, take, drop, length-append, length-drop, get_or-append}
use lib.Seq.{get_or-take, get_or-drop, get_or-append-add, length-take-le, take_at}
use borrow.Rule.Slice.PartMut.{put_mid, post_of, Post-is}

module _ {A : Type 0} (xs ys : List A) (a e : ℕ) (order : a ≤ e) (fits : e ≤ length xs) (long : length ys ≡ e - a) where
  -- the buffer with ys in the part's place
  abbrev pub back : List A
  back = put_mid a (e - a) xs ys

  pub back_is : back ≡ (take a xs ++ ys) ++ drop e xs
  back_is = ap (λ z. take a xs ++ (ys ++ z)) (Post-is a e xs order) ∙ sym (append_assoc (take a xs) ys (drop e xs))

  front_length : length (take a xs ++ ys) ≡ e
  front_length = length-append (take a xs) ys ∙ ap (λ n. n + length ys) (length-take-le a xs (omega arith)) ∙ omega arith

  pub back_length : length back ≡ length xs
  back_length =
      ap length back_is
      ∙ length-append (take a xs ++ ys) (drop e xs)
      ∙ ap (λ n. n + length (drop e xs)) front_length
      ∙ ap (λ n. e + n) (length-drop e xs)
      ∙ omega arith

  -- up to the part's end
  pub back_front : take e back ≡ take a xs ++ ys
  back_front = ap (take e) back_is ∙ take_at (take a xs ++ ys) (drop e xs) e front_length

  pub back_before : (none : A) (i : ℕ) → i < a → get_or back i none ≡ get_or xs i none
  back_before none i h =
      get_or-append (take a xs) (ys ++ post_of a (e - a) xs) none i (omega (arith, length-take-le a xs (omega arith))) ∙ get_or-take a xs i none h

  pub back_inside : (none : A) (q : ℕ) → q < e - a → get_or back (a + q) none ≡ get_or ys q none
  back_inside none q h =
      ap (λ n. get_or back (n + q) none) (sym (length-take-le a xs (omega arith)))
      ∙ get_or-append-add (take a xs) (ys ++ post_of a (e - a) xs) q none
      ∙ get_or-append ys (post_of a (e - a) xs) none q (omega arith)

  pub back_after : (none : A) (i : ℕ) → e ≤ i → get_or back i none ≡ get_or xs i none
  back_after none i h =
      ap (λ l. get_or l i none) back_is
      ∙ ap (λ n. get_or ((take a xs ++ ys) ++ drop e xs) n none) place
      ∙ get_or-append-add (take a xs ++ ys) (drop e xs) (i - e) none
      ∙ get_or-drop e xs (i - e) none
      ∙ ap (λ n. get_or xs n none) there
    where
      place : i ≡ length (take a xs ++ ys) + (i - e)
      place = omega (arith, front_length)

      there : e + (i - e) ≡ i
      there = omega arith
