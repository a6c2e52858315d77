-- A head of which the first bytes are in: its numbers are those of bytes that can stand, and these bytes are its own.
use mathlib.Core.Path.{◌≡◌, refl, sym, ap, ◌∙◌}
use mathlib.Core.Bool.{true, false}
use mathlib.Core.List.{List, [], ◌∷◌, ◌++◌}
use mathlib.Core.Logic.{⊎_elim}
use Prim.Native.Nat.{ℕ, ◌+◌, ◌-◌, ◌≤◌, ◌<◌}
use native.Mathlib.Nat.{one-le-pow}
use native.Mathlib.Omega.{arith}
use lib.ListN.{length, get_or, take, get_or-eq_default}
use lib.Seq.{ext_get_or, get_or-take, length-take-le}
use borrow.Author.Tests.{lt-ltb, le-ltb, eq-eqb, eqb-true}
use Rattle.letters.specs.Lanes.{Bytes}
use Rattle.letters.proofs.Cases.{le_or_lt}
use Rattle.group.specs.Ranges.{between}
use Rattle.group.proofs.InRange.{between_true, true_between}
use Rattle.records.specs.Records.{number, number_in}
use Rattle.records.specs.Steps.Ranges.{range_tests}
use Rattle.records.proofs.NumberBytes.{number_byte, number_none, none_number}
use Rattle.records.proofs.RangeBytes.{range_any}
use Rattle.kinds.specs.Kinds.{row_for_kind, is_kind, head_size}
use Rattle.kinds.proofs.RowLaws.{row_laws, kind_small, size_some}
use Rattle.layout.specs.Laws.{Passes}
use Rattle.layout.proofs.LaidOut.{append_at_left, append_at_right}
use Rattle.layout.proofs.Judgments.{not_both}
use Rattle.heads.specs.declared.Head.{Head}
use Rattle.heads.specs.Heads.{head_record, HeadNumbers, head_in, head_tests, heads}
use Rattle.heads.specs.Steps.Partly.{HeadFits, Blank, PartlyIn}
use Rattle.heads.proofs.HeadLaws.{wide, each_offset, record_long, record_length, record_batch, record_front, tests_hold, told_by_bytes, room_in_range, same_numbers, any_byte, own_below, room_l, room_batch, length_test_lem, batch_test, next_at, kept_at}

-- numbers in range have room in their bytes
pub fits_in_range : (h : Head) → HeadNumbers h → HeadFits h
fits_in_range h w =
    let r = w.numbers in
    let laws = row_laws h.kind in
    record {
      kind = kind_small h.kind w.kind;
      n = omega (arith, r);
      k = omega (arith, r, laws.some_k h.group.n r.n_low r.n-high);
      d = omega (arith, r, laws.some-d h.group.n h.group.k r.n_low r.n-high r.k_low r.k-high);
      node = omega (arith, r);
      l = room_in_range h w;
      batch = omega (arith, w.batch);
    }

-- the first bytes of a head, and others after them
pub first_long : (h : Head) (at : ℕ) → at ≤ head_size h.kind → length (take at (head_record h)) ≡ at
first_long h at le = length-take-le at (head_record h) (omega (arith, record_long h))

module _ (h : Head) (at : ℕ) (le : at ≤ head_size h.kind) (ys : List ℕ) where
  pub first_at : (p : ℕ) → p < at → get_or (take at (head_record h) ++ ys) p 0 ≡ get_or (head_record h) p 0
  first_at p l = append_at_left (take at (head_record h)) ys p (omega (arith, first_long h at le)) ∙ get_or-take at (head_record h) p 0 l

  pub later_at : (p : ℕ) → at ≤ p → get_or (take at (head_record h) ++ ys) p 0 ≡ get_or ys (p - at) 0
  later_at p l = append_at_right (take at (head_record h)) ys p at (first_long h at le) l

-- the bytes of numbers that have room in them are bytes
pub record_byte : (h : Head) → HeadFits h → (p : ℕ) → p < head_size h.kind → get_or (head_record h) p 0 < 256
record_byte h w =
    each_offset h.kind (λ p. get_or (head_record h) p 0 < 256) w.kind w.n w.k w.d w.node
    (λ q l. rw (record_length h q l) (number_byte (wide h.kind) h.group.l q))
    (λ q l. rw (record_batch h q) (number_byte 4 h.batch q))

-- from numbers to bytes
module _ (h : Head) (at : ℕ) (le : at ≤ head_size h.kind) (w : PartlyIn h at) where
  not_in : (p : ℕ) → p < head_size h.kind → at ≤ p → get_or (head_record h) p 0 ≡ 0
  not_in p hi past = eqb-true (get_or (head_record h) p 0) 0 (simp (le-ltb p at past) at (w.each p hi))

  passes_test : (p : ℕ) → p < at → get_or (head_tests h) p true ≡ true
  passes_test p hi = simp (lt-ltb p at hi) at (w.each p (omega arith))

  -- these bytes, and zeros after them, are the head's own
  same_bytes : (p : ℕ) → p < head_size h.kind → get_or (take at (head_record h)) p 0 ≡ get_or (head_record h ++ []) p 0
  same_bytes p hi =
      ⊎_elim
      (λ past. get_or-eq_default (take at (head_record h)) 0 (omega (arith, first_long h at le)) ∙ sym (not_in p hi past))
      (λ inside. get_or-take at (head_record h) p 0 inside) (le_or_lt at p)
      ∙ sym (record_front h [] p hi)

  pub numbers_back : head_in (take at (head_record h)) ≡ h
  numbers_back =
      same_numbers (take at (head_record h)) (head_record h ++ [])
      (λ p hi. same_bytes p (rw (same_bytes 0 (omega (arith, size_some h.kind))) at hi))
      ∙ told_by_bytes h w.fits.l w.fits.batch []

  pub passes_back : Passes heads (take at (head_record h)) at
  passes_back p l = ap (λ g. get_or (head_tests g) p true) numbers_back ∙ passes_test p l

  pub bytes_back : Bytes (take at (head_record h))
  bytes_back =
      record {
        below =
            λ i l.
            let inside : i < at = omega (arith, first_long h at le) in
            rw (get_or-take at (head_record h) i 0 inside) (record_byte h w.fits i (omega arith));
      }

-- where no byte is in, no number is
pub partly_blank : (h : Head) → PartlyIn h 0 → Blank h
unfolding head_size
partly_blank h w =
    let none : (p : ℕ) → p < head_size h.kind → get_or (head_record h) p 0 ≡ 0 = λ p l. not_in h 0 (omega arith) w p l (omega arith) in
    record {
      kind = none 0 (omega arith);
      n = none 1 (omega arith);
      k = none 2 (omega arith);
      d = none 3 (omega arith);
      node = none 4 (omega arith);
      l = number_none (wide h.kind) h.group.l w.fits.l (λ q l. sym (record_length h q l) ∙ none (5 + q) (omega arith));
      batch = number_none 4 h.batch w.fits.batch (λ q l. sym (record_batch h q) ∙ none (5 + wide h.kind + q) (omega arith));
    }

pub blank_partly : (h : Head) → Blank h → PartlyIn h 0
blank_partly h w =
    record {
      fits =
          record {
            kind = omega (arith, w.kind);
            n = omega (arith, w.n);
            k = omega (arith, w.k);
            d = omega (arith, w.d);
            node = omega (arith, w.node);
            l = rw w.l (omega (arith, one-le-pow (wide h.kind) 256 (omega arith)));
            batch = omega (arith, w.batch);
          };
      each = λ p hi. simp (le-ltb p 0 (omega arith)) (eq-eqb _ 0 (zeros p hi));
    }
  where
    zeros : (p : ℕ) → p < head_size h.kind → get_or (head_record h) p 0 ≡ 0
    zeros =
        each_offset h.kind (λ p. get_or (head_record h) p 0 ≡ 0)
        w.kind w.n w.k w.d w.node
        (λ q l. record_length h q l ∙ ap (λ x. get_or (number (wide h.kind) x) q 0) w.l ∙ none_number (wide h.kind) q)
        (λ q l. record_batch h q ∙ ap (λ x. get_or (number 4 x) q 0) w.batch ∙ none_number 4 q)

-- numbers in range are those of a head that is all in
pub all_in : (h : Head) → HeadNumbers h → PartlyIn h (head_size h.kind)
all_in h w = record { fits = fits_in_range h w; each = λ p hi. simp (lt-ltb p (head_size h.kind) hi) (tests_hold h w p hi) }

-- and from bytes to numbers
module _ (xs : List ℕ) (bytes : Bytes xs) where
  pub fits_in : HeadFits (head_in xs)
  unfolding head_in
  fits_in =
      record {
        kind = any_byte xs bytes 0;
        n = any_byte xs bytes 1;
        k = any_byte xs bytes 2;
        d = any_byte xs bytes 3;
        node = any_byte xs bytes 4;
        l = room_l xs bytes;
        batch = room_batch xs bytes;
      }

  -- the kind is the first byte
  pub kind_in : (head_in xs).kind ≡ get_or xs 0 0
  unfolding head_in
  kind_in = refl

  own_at : (p : ℕ) → p < head_size (head_in xs).kind → get_or xs p 0 ≡ get_or (head_record (head_in xs)) p 0
  unfolding head_in
  own_at p l = own_below xs bytes p l

  module _ (few : length xs ≤ head_size (head_in xs).kind) where
    pub partly_of : Passes heads xs (length xs) → PartlyIn (head_in xs) (length xs)
    partly_of test =
        record {
          fits = fits_in;
          each =
              λ p hi.
              ⊎_elim
              (λ past. simp (le-ltb p (length xs) past) (eq-eqb _ 0 (sym (own_at p hi) ∙ get_or-eq_default xs 0 past)))
              (λ inside. simp (lt-ltb p (length xs) inside) (test p inside)) (le_or_lt (length xs) p);
        }

    pub own_first : take (length xs) (head_record (head_in xs)) ≡ xs
    own_first =
        ext_get_or 0 (take (length xs) (head_record (head_in xs))) xs (first_long (head_in xs) (length xs) few)
        (λ p l.
        let inside : p < length xs = omega (arith, first_long (head_in xs) (length xs) few) in
        get_or-take (length xs) (head_record (head_in xs)) p 0 inside ∙ sym (own_at p (omega arith)))

-- Where 0 and 255 can both stand next in a head, any byte can: it is a byte of a number that isn't tested there, or every number is in the range.
module _ (xs : List ℕ) (bytes : Bytes xs) (byte : ℕ) (small : byte < 256) where
  abbrev With : ℕ → List ℕ
  With b = xs ++ b ∷ []

  -- both are in a range, and so is what is between them
  between_any : (lo hi : ℕ) → between lo hi 0 ≡ true → between lo hi 255 ≡ true → between lo hi byte ≡ true
  between_any lo hi low high =
      let a = between_true lo hi 0 low in
      let b = between_true lo hi 255 high in
      true_between lo hi byte (omega (arith, a)) (omega (arith, b))

  -- the test of d with a byte more, and those of L
  d_test :
      (b : ℕ) → length xs ≡ 3
      → get_or (heads.head_tests (With b)) 3 true
      ≡ between ((row_for_kind (get_or xs 0 0)).least_d (get_or xs 1 0) (get_or xs 2 0)) ((row_for_kind (get_or xs 0 0)).mostD (get_or xs 1 0) (get_or xs 2 0)) b
  unfolding head_in
  d_test b e = rw (next_at xs b 3 e, kept_at xs b 3 e 2 (omega arith), kept_at xs b 3 e 1 (omega arith), kept_at xs b 3 e 0 (omega arith))

  l_test :
      (b q : ℕ) → length xs ≡ 5 + q
      → get_or (heads.head_tests (With b)) (5 + q) true
      ≡ get_or (range_tests (wide (get_or xs 0 0)) (row_for_kind (get_or xs 0 0)).leastL (row_for_kind (get_or xs 0 0)).most_l (number_in (wide (get_or xs 0 0)) 5 (With b))) q true
  unfolding head_in
  l_test b q e =
      length_test_lem (head_in (With b)) q
      ∙ ap (λ k. get_or (range_tests (wide k) (row_for_kind k).leastL (row_for_kind k).most_l (number_in (wide k) 5 (With b))) q true) (kept_at xs b (5 + q) e 0 (omega arith))

  pub any_next :
      (p : ℕ) → p < head_size (get_or xs 0 0) → length xs ≡ p → get_or (heads.head_tests (With 0)) p true ≡ true → get_or (heads.head_tests (With 255)) p true ≡ true
      → get_or (heads.head_tests (With byte)) p true ≡ true
  unfolding head_in is_kind
  any_next =
      each_offset (get_or xs 0 0)
      (λ p.
      length xs ≡ p → get_or (heads.head_tests (With 0)) p true ≡ true → get_or (heads.head_tests (With 255)) p true ≡ true
      → get_or (heads.head_tests (With byte)) p true ≡ true)
      (λ e low high. absurd (not_both false (rw (next_at xs 0 0 e) at low) refl))
      (λ e low high. absurd (not_both false (rw (next_at xs 0 1 e) at low) refl))
      (λ e low high. absurd (not_both false (rw (next_at xs 0 2 e) at low) refl))
      (λ e low high. d_test byte e ∙ between_any _ _ (sym (d_test 0 e) ∙ low) (sym (d_test 255 e) ∙ high))
      (λ e low high. absurd (not_both false (rw (next_at xs 0 4 e) at low) refl))
      (λ q l e low high.
      let same : (b i : ℕ) → i < q → get_or (With b) (5 + i) 0 ≡ get_or xs (5 + i) 0 = λ b i h. kept_at xs b (5 + q) e (5 + i) (omega arith) in
      l_test byte q e
      ∙ range_any (wide (get_or xs 0 0)) (row_for_kind (get_or xs 0 0)).leastL (row_for_kind (get_or xs 0 0)).most_l 5 (With 0) (With 255) (With byte) q (row_laws (get_or xs 0 0)).any_l
      (λ i h. rw (same byte i h) (any_byte xs bytes (5 + i)))
      (λ i h. (same 0 i h ∙ sym (same byte i h), same 255 i h ∙ sym (same byte i h)))
      (next_at xs 0 (5 + q) e) (next_at xs 255 (5 + q) e) (rw (next_at xs byte (5 + q) e) small)
      (sym (l_test 0 q e) ∙ low) (sym (l_test 255 q e) ∙ high))
      (λ q l e low high.
      ap (λ k. get_or (head_tests (head_in (With byte))) (5 + wide k + q) true) (sym (kept_at xs byte (5 + wide (get_or xs 0 0) + q) e 0 (omega arith)))
      ∙ batch_test (head_in (With byte)) q)
