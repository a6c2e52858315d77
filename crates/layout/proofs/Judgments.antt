-- Of any bytes exactly one holds: they are a share, the beginning of one, or one of them is the first that can't stand.
-- A share's head tells its length, so no share is the beginning of another; and its bytes tell head and letters.
use mathlib.Core.Path.{◌≡◌, refl, sym, ap, ap₂, ◌∙◌}
use mathlib.Core.Bool.{Bool, true, false}
use mathlib.Core.List.{List, [], ◌∷◌, ◌++◌, append-nil, append_assoc}
use mathlib.Core.Logic.{◌⊎◌, inl, inr, ⊎_elim}
use Prim.Native.Nat.{ℕ, zero, suc, ◌+◌, ◌*◌, ◌/◌, ◌%◌, ◌≤◌, ◌<◌}
use native.Mathlib.Omega.{arith}
use lib.ListN.{length, get_or, take, drop, length-append, length-drop, take-append-drop}
use lib.Seq.{ext_get_or, get_or-take, take-take, length-take-le}
use Rattle.letters.proofs.Cases.{le_or_lt, eq_or_ne}
use Rattle.records.specs.Records.{block_letters, size_for}
use Rattle.records.specs.Steps.Places.{letter_in}
use Rattle.layout.specs.Layout.{Layout, size_in, total_in}
use Rattle.letters.specs.Lanes.{Bytes}
use Rattle.layout.specs.Share.{ShareOf}
use Rattle.layout.specs.Judgment.{IsShare, IsBeginning, IsNeither, CanStand, Offends}
use Rattle.layout.specs.Steps.Stands.{stands}
use Rattle.layout.specs.Laws.{Lawful}
use Rattle.layout.proofs.LaidOut.{in_blocks, share_length}
use Rattle.layout.proofs.Stands.{own_size, own_head}
use Rattle.layout.proofs.Accepted.{Accepted, accepted_before, share_accepted, same_stands, size_with, total_with, own_letters}
use Rattle.layout.proofs.Completing.{can_stand, whole_share}

-- The bytes before index q stand, and the one at q doesn't: it is the first that can't stand there.
pub record FirstToFail {Head : Type 0} (y : Layout Head) (xs : List ℕ) (q : ℕ) : Type 0 where
  pub before : (p : ℕ) → p < q → stands y xs p ≡ true
  pub wrong : stands y xs q ≡ false

-- Exactly one of the three holds of any bytes, and at one place.
pub record ExactlyOne {Head : Type 0} (y : Layout Head) (xs : List ℕ) : Type 0 where
  pub one : IsShare y xs ⊎ (IsBeginning y xs ⊎ ((q : ℕ) × Offends y xs q))
  pub not-first-two : IsShare y xs → IsBeginning y xs → ⊥
  pub not_with_third : (q : ℕ) → Offends y xs q → IsNeither y xs
  pub place : (q q' : ℕ) → Offends y xs q → Offends y xs q' → q ≡ q'

pub not_both : (b : Bool) → b ≡ true → b ≡ false → ⊥
not_both b t f = let z : ◌≡◌ {A = ℕ} 0 1 = cc in omega arith

module _ {Head : Type 0} (y : Layout Head) (law : Lawful y) where
  -- a share's bytes have its head
  pub share_head : (h : Head) (letters xs : List ℕ) → ShareOf y h letters xs → y.head_in xs ≡ h
  share_head h letters xs s = ap y.head_in s.is ∙ own_head y law h letters s.allowed

  pub share_total : (h : Head) (letters xs : List ℕ) → ShareOf y h letters xs → total_in y xs ≡ length letters
  share_total h letters xs s = ap y.total (share_head h letters xs s) ∙ sym s.count

  pub share_front : (h : Head) (letters xs : List ℕ) → ShareOf y h letters xs → size_in y xs ≡ length (y.head_record h)
  share_front h letters xs s = ap (size_in y) s.is ∙ own_size y law h letters s.allowed

  -- and they are as many as it says
  pub share_size : (xs : List ℕ) → IsShare y xs → length xs ≡ size_for (size_in y xs) (total_in y xs)
  share_size xs s =
      ap length s.2.is
      ∙ share_length y s.0 s.1
      ∙ ap₂ size_for (sym (share_front s.0 s.1 xs s.2)) (sym (share_total s.0 s.1 xs s.2))

  -- so a share with bytes after it is no share, unless they are none
  pub share_alone : (xs ys : List ℕ) → IsShare y xs → IsShare y (xs ++ ys) → length ys ≡ 0
  share_alone xs ys s t =
      let whole = share_size xs s in
      let same = ap₂ size_for (size_with y law xs ys (omega arith)) (total_with y law xs ys (omega arith)) in
      omega (arith, whole, share_size (xs ++ ys) t, length-append xs ys, same)

  -- A share with anything after it is neither a share nor the beginning of one.
  pub share_then_more : (xs ys : List ℕ) → IsShare y xs → 1 ≤ length ys → IsNeither y (xs ++ ys)
  share_then_more xs ys s some = (
    λ t. omega (arith, share_alone xs ys s t),
    λ b. omega (arith, share_alone xs (ys ++ b.0) s (rw append_assoc at b.2), length-append ys b.0),
  )

  -- A share cut anywhere is the beginning of one, and never a share.
  pub cut_is_beginning : (xs : List ℕ) (q : ℕ) → IsShare y xs → q < length xs → IsBeginning y (take q xs)
  cut_is_beginning xs q s h = (drop q xs, simp length-drop (omega arith), rw take-append-drop s)

  pub cut_is_no_share : (xs : List ℕ) (q : ℕ) → IsShare y xs → q < length xs → IsShare y (take q xs) → ⊥
  cut_is_no_share xs q s h t =
      omega (arith, share_alone (take q xs) (drop q xs) t (rw take-append-drop s), length-drop q xs)

  -- Two shares of the same bytes have the same head and the same letters.
  pub one_head : (h h' : Head) (letters letters' xs : List ℕ) → ShareOf y h letters xs → ShareOf y h' letters' xs → h ≡ h'
  one_head h h' letters letters' xs s s' = sym (share_head h letters xs s) ∙ share_head h' letters' xs s'

  -- the letter at index i is the byte at an offset of a block
  pub letter_byte :
      (h : Head) (letters xs : List ℕ) → ShareOf y h letters xs → (i : ℕ) → i < length letters
      → get_or letters i 0 ≡ letter_in (size_in y xs) xs i
  letter_byte h letters xs s i l =
      ap (λ j. get_or letters j 0) (index i)
      ∙ sym (in_blocks y h letters (size_in y xs) (sym (share_front h letters xs s)) (i / block_letters) (suc (i % block_letters)) (omega arith) (omega arith))
      ∙ ap (λ ys. letter_in (size_in y xs) ys i) (sym s.is)
    where
      index : (i : ℕ) → i ≡ i / block_letters * block_letters + i % block_letters
      index i = omega arith

  pub one_letters :
      (h h' : Head) (letters letters' xs : List ℕ) → ShareOf y h letters xs → ShareOf y h' letters' xs → letters ≡ letters'
  one_letters h h' letters letters' xs s s' =
      ext_get_or 0 letters letters' same
      (λ i l. letter_byte h letters xs s i l ∙ sym (letter_byte h' letters' xs s' i (omega (arith, same))))
    where
      same : length letters ≡ length letters'
      same = sym (share_total h letters xs s) ∙ share_total h' letters' xs s'

  -- Bytes that can stand are those whose every byte stands.
  pub accepted_if : (xs : List ℕ) → CanStand y xs → Accepted y xs
  accepted_if xs s = accepted_before y law xs s.0 (share_accepted y law s.1.0 s.1.1 (xs ++ s.0) s.1.2)

  -- they are a share where they are as many as their head says, and else the beginning of one
  pub is_share : (xs : List ℕ) → Bytes xs → Accepted y xs → length xs ≡ size_for (size_in y xs) (total_in y xs) → IsShare y xs
  is_share xs bytes a e = (y.head_in xs, own_letters y xs, whole_share y law xs bytes a e)

  pub is_beginning : (xs : List ℕ) → Bytes xs → Accepted y xs → (length xs ≡ size_for (size_in y xs) (total_in y xs) → ⊥) → IsBeginning y xs
  is_beginning xs bytes a n =
      let s = can_stand y law xs bytes a in
      ⊎_elim
      (λ none. absurd (n (share_size xs (rw (all s.0 none) at s.1))))
      (λ some. (s.0, some, s.1))
      (le_or_lt (length s.0) 0)
    where
      all : (ys : List ℕ) → length ys ≤ 0 → xs ++ ys ≡ xs
      all [] h = append-nil xs
      all (y ∷ ys) h = absurd (omega arith)

  pub stands_take : (xs : List ℕ) (q p : ℕ) → p < q → stands y (take q xs) p ≡ stands y xs p
  stands_take xs q p h = same_stands y law (take q xs) xs p (λ i l. get_or-take q xs i 0 (omega arith))

  pub accepted_take : (xs : List ℕ) (q : ℕ) → q ≤ length xs → ((p : ℕ) → p < q → stands y xs p ≡ true) → Accepted y (take q xs)
  accepted_take xs q h a p l = let within : p < q = omega (arith, length-take-le q xs h) in stands_take xs q p within ∙ a p within

  pub stands_before : (xs : List ℕ) (q : ℕ) → q ≤ length xs → CanStand y (take q xs) → (p : ℕ) → p < q → stands y xs p ≡ true
  stands_before xs q h s p l = sym (stands_take xs q p l) ∙ accepted_if (take q xs) s p (omega (arith, length-take-le q xs h))

  pub bytes_take : (xs : List ℕ) (q : ℕ) → q ≤ length xs → Bytes xs → Bytes (take q xs)
  bytes_take xs q h b =
      record {
        below =
            λ i l.
            let within : i < q = omega (arith, length-take-le q xs h) in
            rw (get_or-take q xs i 0 within) (b.below i (omega arith));
      }

  pub offends_if : (xs : List ℕ) (q : ℕ) → Bytes xs → q < length xs → FirstToFail y xs q → Offends y xs q
  offends_if xs q bytes h f =
      record {
        within = h;
        before = can_stand y law (take q xs) (bytes_take xs q (omega arith) bytes) (accepted_take xs q (omega arith) f.before);
        not_with =
            λ s.
            not_both (stands y xs q)
            (stands_before xs (q + 1) (omega arith) s q (omega arith))
            f.wrong;
      }

  pub wrong_if : (xs : List ℕ) (q : ℕ) → Bytes xs → Offends y xs q → FirstToFail y xs q
  wrong_if xs q bytes o =
      record {
        before = before;
        wrong = not_true (stands y xs q) (λ t. o.not_with (can_stand y law (take (q + 1) xs) (bytes_take xs (q + 1) room bytes) (accepted_take xs (q + 1) room (with t))));
      }
    where
      room : q + 1 ≤ length xs
      room = omega (arith, o.within)

      before : (p : ℕ) → p < q → stands y xs p ≡ true
      before = stands_before xs q (omega arith) o.before

      with : stands y xs q ≡ true → (p : ℕ) → p < q + 1 → stands y xs p ≡ true
      with t p l = ⊎_elim (λ at. let e : p ≡ q = omega arith in ap (stands y xs) e ∙ t) (before p) (le_or_lt q p)

      not_true : (b : Bool) → (b ≡ true → ⊥) → b ≡ false
      not_true true n = absurd (n refl)
      not_true false n = refl

  -- all of the first m bytes stand, or one of them is the first that doesn't
  first_wrong :
      (xs : List ℕ) (m : ℕ) → ((p : ℕ) → p < m → stands y xs p ≡ true) ⊎ ((q : ℕ) × (q < m) × FirstToFail y xs q)
  first_wrong xs zero = inl (λ p h. absurd (omega arith))
  first_wrong xs (suc m) =
      ⊎_elim (λ all. by (stands y xs m) refl all) (λ w. inr (w.0, omega (arith, w.1), w.2)) (first_wrong xs m)
    where
      by :
          (b : Bool) → stands y xs m ≡ b → ((p : ℕ) → p < m → stands y xs p ≡ true)
          → ((p : ℕ) → p < suc m → stands y xs p ≡ true) ⊎ ((q : ℕ) × (q < suc m) × FirstToFail y xs q)
      by true e all =
          inl (λ p h. ⊎_elim (λ at. let s : p ≡ m = omega arith in ap (stands y xs) s ∙ e) (all p) (le_or_lt m p))
      by false e all = inr (m, omega arith, record { before = all; wrong = e })

  -- No bytes are the beginning of a share.
  pub nothing_begins : IsBeginning y []
  nothing_begins =
      is_beginning [] (record { below = λ i h. absurd (omega arith) }) (λ p h. absurd (omega arith)) (λ e. omega arith)

  pub nothing_stands : CanStand y []
  nothing_stands = (nothing_begins.0, nothing_begins.2)

  -- Bytes can stand exactly if they are a share or the beginning of one.
  pub stands_either : (xs : List ℕ) → Bytes xs → CanStand y xs → IsShare y xs ⊎ IsBeginning y xs
  stands_either xs bytes s =
      let a = accepted_if xs s in
      ⊎_elim (λ whole. inl (is_share xs bytes a whole)) (λ more. inr (is_beginning xs bytes a more))
      (eq_or_ne (length xs) (size_for (size_in y xs) (total_in y xs)))

  pub either_stands : (xs : List ℕ) → IsShare y xs ⊎ IsBeginning y xs → CanStand y xs
  either_stands xs w = ⊎_elim (λ s. ([], rw append-nil s)) (λ b. (b.0, b.2)) w

  -- One of the three holds of any bytes,
  pub one_of_three : (xs : List ℕ) → Bytes xs → IsShare y xs ⊎ (IsBeginning y xs ⊎ ((q : ℕ) × Offends y xs q))
  one_of_three xs bytes =
      ⊎_elim
      (λ all.
      ⊎_elim (λ whole. inl (is_share xs bytes all whole)) (λ more. inr (inl (is_beginning xs bytes all more)))
      (eq_or_ne (length xs) (size_for (size_in y xs) (total_in y xs))))
      (λ w. inr (inr (w.0, offends_if xs w.0 bytes w.1 w.2)))
      (first_wrong xs (length xs))

  -- and no two:
  pub not_share_and_beginning : (xs : List ℕ) → IsShare y xs → IsBeginning y xs → ⊥
  not_share_and_beginning xs s b = omega (arith, share_alone xs b.0 s b.2, b.1)

  -- bytes of which one offends can't stand,
  pub offends_not_stand : (xs : List ℕ) (q : ℕ) → Offends y xs q → CanStand y xs → ⊥
  offends_not_stand xs q o s =
      o.not_with (drop (q + 1) xs ++ s.0, rw (sym (append_assoc (take (q + 1) xs) (drop (q + 1) xs) s.0), take-append-drop) s.1)

  -- so they are neither
  pub offends_neither : (xs : List ℕ) (q : ℕ) → Offends y xs q → IsNeither y xs
  offends_neither xs q o =
      (λ s. offends_not_stand xs q o (either_stands xs (inl s)), λ b. offends_not_stand xs q o (either_stands xs (inr b)))

  -- and of bytes that are neither, one offends, and one alone
  pub neither_offends : (xs : List ℕ) → Bytes xs → IsNeither y xs → (q : ℕ) × Offends y xs q
  neither_offends xs bytes n =
      ⊎_elim (λ s. absurd (n.0 s)) (λ w. ⊎_elim (λ b. absurd (n.1 b)) (λ o. o) w) (one_of_three xs bytes)

  pub one_place : (xs : List ℕ) (q q' : ℕ) → Offends y xs q → Offends y xs q' → q ≡ q'
  one_place xs q q' o o' = omega (arith, two q q' o o', two q' q o' o)
    where
      -- bytes that a share can have first begin with bytes that it can
      two : (q q' : ℕ) → Offends y xs q → Offends y xs q' → q < q' → ⊥
      two q q' o o' lt = offends_not_stand (take q' xs) q (record { within = omega (arith, o'.within, length-take-le q' xs (omega (arith, o'.within))); before = rw (cut q (omega arith)) o.before; not_with = rw (cut (q + 1) (omega arith)) o.not_with }) o'.before
        where
          cut : (m : ℕ) → m ≤ q' → take m (take q' xs) ≡ take m xs
          cut m le = take-take m q' xs le

  pub exactly_one : (xs : List ℕ) → Bytes xs → ExactlyOne y xs
  exactly_one xs bytes =
      record {
        one = one_of_three xs bytes;
        not-first-two = not_share_and_beginning xs;
        not_with_third = offends_neither xs;
        place = one_place xs;
      }
