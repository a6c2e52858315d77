-- The test of a byte, by the record that its index falls into; and a share's own bytes pass it.
use mathlib.Core.Path.{◌≡◌, refl, sym, ap, ap₂, subst, ◌∙◌}
use mathlib.Core.Bool.{true, false}
use mathlib.Core.List.{List, ◌++◌}
use mathlib.Core.Logic.{⊎_elim}
use Prim.Native.Nat.{ℕ, zero, suc, ◌+◌, ◌-◌, ◌*◌, ◌/◌, ◌%◌, ◌≤◌, ◌<◌}
use native.Mathlib.Omega.{arith}
use lib.Dec.{ltb, eqb}
use lib.ListN.{length, get_or, get_or-eq_default}
use borrow.Author.Tests.{lt-ltb, le-ltb, eq-eqb, ne_eqb}
use Rattle.letters.specs.Places.{either}
use Rattle.letters.proofs.Cases.{le_or_lt}
use Rattle.records.specs.Records.{block_letters, block_size, end_size, blocks, size_for, block_records, end_record}
use Rattle.records.specs.Steps.Places.{block_kind, block_byte, block_stands, end_stands, record_stands, stands_in, record_at, offset_at}
use Rattle.records.proofs.Places.{head_at, block_at}
use Rattle.layout.specs.Layout.{Layout, size_in, total_in}
use Rattle.layout.specs.Share.{share_of}
use Rattle.layout.specs.Steps.Stands.{stands}
use Rattle.layout.specs.Laws.{Lawful}
use Rattle.layout.proofs.LaidOut.{in_head, in_blocks, in_end}

-- a place is in the head, of H bytes, in a block, or past the blocks
pub data Place (H letters p : ℕ) : Type 0 where
  head : p < H → Place H letters p
  block : (r j : ℕ) → r < blocks letters → j < block_size → p ≡ H + (r * block_size + j) → Place H letters p
  end : (j : ℕ) → p ≡ H + (blocks letters * block_size + j) → Place H letters p

pub some_place : (H letters p : ℕ) → Place H letters p
some_place H letters p =
    ⊎_elim
    (λ past.
    ⊎_elim (λ over. end (p - H - blocks letters * block_size) (omega arith))
    (λ within. block ((p - H) / block_size) ((p - H) % block_size) (quotient (p - H) (blocks letters) within) (omega arith) (omega arith))
    (le_or_lt (blocks letters * block_size) (p - H)))
    head
    (le_or_lt H p)
  where
    quotient : (q b : ℕ) → q < b * block_size → q / block_size < b
    quotient q b h = omega arith

-- nothing stands past the end
nothing_past : (T r j byte : ℕ) → blocks T * block_size + end_size ≤ r * block_size + j → j < block_size → record_stands T r j byte ≡ false
unfolding record_stands end_stands
nothing_past T r j byte over hj =
    ⊎_elim
    (λ at. let e : r ≡ blocks T = omega arith in simp (le-ltb r (blocks T) (omega arith), eq-eqb r (blocks T) e, le-ltb j end_size (omega arith)))
    (λ past. simp (le-ltb r (blocks T) (omega arith), ne_eqb r (blocks T) (λ e. omega arith)))
    (le_or_lt r (blocks T))

-- the test at each kind of place
module _ {Head : Type 0} (y : Layout Head) (xs : List ℕ) where
  pub stands_head : (p : ℕ) → p < size_in y xs → stands y xs p ≡ get_or (y.head_tests xs) p true
  unfolding stands stands_in
  stands_head p h = rw ((head_at (size_in y xs) p h).0, (head_at (size_in y xs) p h).1)

  module _ (H T : ℕ) (eh : size_in y xs ≡ H) (et : total_in y xs ≡ T) where
    pub stands_record :
        (r j : ℕ) → j < block_size → stands y xs (H + (r * block_size + j)) ≡ record_stands T r j (get_or xs (H + (r * block_size + j)) 0)
    unfolding stands stands_in
    stands_record r j hj =
        let w = block_at H r j hj in
        ap₂ (λ s t. stands_in (y.head_tests xs) t (record_at s (H + (r * block_size + j))) (offset_at s (H + (r * block_size + j))) (get_or xs (H + (r * block_size + j)) 0)) eh et
        ∙ ap₂ (λ n o. stands_in (y.head_tests xs) T n o (get_or xs (H + (r * block_size + j)) 0)) w.0 w.1

    pub stands_block :
        (r j : ℕ) → r < blocks T → j < block_size
        → stands y xs (H + (r * block_size + j)) ≡ block_stands T r j (get_or xs (H + (r * block_size + j)) 0)
    unfolding record_stands
    stands_block r j hr hj = stands_record r j hj ∙ simp (lt-ltb r (blocks T) hr)

    pub stands_end :
        (j : ℕ) → j < end_size
        → stands y xs (H + (blocks T * block_size + j)) ≡ eqb (get_or xs (H + (blocks T * block_size + j)) 0) (get_or (end_record T) j 0)
    unfolding record_stands end_stands
    stands_end j hj =
        stands_record (blocks T) j (omega arith)
        ∙ simp (le-ltb (blocks T) (blocks T) (omega arith), eq-eqb (blocks T) (blocks T) refl, lt-ltb j end_size hj)

    -- past the head it is that of its record
    pub stands_past :
        (p : ℕ) → H ≤ p → stands y xs p ≡ record_stands T ((p - H) / block_size) ((p - H) % block_size) (get_or xs p 0)
    stands_past p h =
        subst (λ q. stands y xs q ≡ record_stands T ((p - H) / block_size) ((p - H) % block_size) (get_or xs q 0)) (back p h)
        (stands_record ((p - H) / block_size) ((p - H) % block_size) (omega arith))
      where
        back : (p : ℕ) → H ≤ p → H + ((p - H) / block_size * block_size + (p - H) % block_size) ≡ p
        back p h = omega arith

    pub stands_not : (p : ℕ) → size_for H T ≤ p → stands y xs p ≡ false
    stands_not p h =
        stands_past p (omega arith) ∙ nothing_past T ((p - H) / block_size) ((p - H) % block_size) (get_or xs p 0) (omega arith) (omega arith)

-- a letter may be any, and a filler byte is 0
pub letter_stands : (T r j byte : ℕ) → (T ≤ r * block_letters + j → byte ≡ 0) → either (ltb (r * block_letters + j) T) (eqb byte 0) ≡ true
letter_stands T r j byte filler =
    ⊎_elim (λ past. simp (le-ltb (r * block_letters + j) T past, eq-eqb byte 0 (filler past)))
    (λ within. simp (lt-ltb (r * block_letters + j) T within))
    (le_or_lt T (r * block_letters + j))

block_stands_lem : (letters : List ℕ) (r j : ℕ) → block_stands (length letters) r j (block_byte letters r j) ≡ true
unfolding block_stands
block_stands_lem letters r zero = eq-eqb (block_kind (length letters) r) (block_kind (length letters) r) refl
block_stands_lem letters r (suc j) =
    letter_stands (length letters) r j (get_or letters (r * block_letters + j) 0) (λ past. get_or-eq_default letters 0 past)

-- a share's own bytes: they tell its head and T, and they stand
module _ {Head : Type 0} (y : Layout Head) (law : Lawful y) (h : Head) (letters : List ℕ) (w : y.Allowed h) where
  -- the first byte of the head is that of the share
  first_byte : get_or (share_of y h letters) 0 0 ≡ get_or (y.head_record h) 0 0
  first_byte = in_head y h letters 0 (omega (arith, law.sized h w, law.some (get_or (y.head_record h) 0 0)))

  pub own_size : size_in y (share_of y h letters) ≡ length (y.head_record h)
  own_size = ap y.head_size first_byte ∙ sym (law.sized h w)

  pub own_head : y.head_in (share_of y h letters) ≡ h
  unfolding share_of
  own_head = law.told h w (block_records letters ++ end_record (length letters))

  own_tests : (p : ℕ) → p < length (y.head_record h) → get_or (y.head_tests (share_of y h letters)) p true ≡ true
  unfolding share_of
  own_tests p l = law.passed h w (block_records letters ++ end_record (length letters)) p (omega (arith, law.sized h w))

  pub own_stand : length letters ≡ y.total h → (p : ℕ) → p < size_for (length (y.head_record h)) (length letters) → stands y (share_of y h letters) p ≡ true
  own_stand count p l =
      elim (some_place H (length letters) p) [
        | head q ↦ stands_head y xs p (omega (arith, own_size)) ∙ own_tests p q
        | block r j hr hj e ↦
            ap (stands y xs) e
            ∙ stands_block y xs H (length letters) own_size total r j hr hj
            ∙ ap (block_stands (length letters) r j) (in_blocks y h letters H refl r j hr hj)
            ∙ block_stands_lem letters r j
        | end j e ↦
            ap (stands y xs) e
            ∙ stands_end y xs H (length letters) own_size total j (omega arith)
            ∙ eq-eqb _ _ (in_end y h letters H refl j)
      ]
    where
      xs : List ℕ
      xs = share_of y h letters

      H : ℕ
      H = length (y.head_record h)

      total : total_in y xs ≡ length letters
      total = ap y.total own_head ∙ sym count
