-- A share byte by byte: which byte stands at each index, by the record and the offset that the index falls into.
use mathlib.Core.Path.{◌≡◌, refl, sym, ap, ◌∙◌}
use mathlib.Core.List.{List, [], ◌∷◌, ◌++◌}
use mathlib.Core.Logic.{⊎_elim}
use Prim.Native.Nat.{ℕ, zero, suc, ◌+◌, ◌-◌, ◌*◌, ◌/◌, ◌%◌, ◌≤◌, ◌<◌}
use native.Mathlib.Omega.{arith}
use lib.ListN.{length, get_or, take, drop, replicate, length-append, length-take, length-drop, length-replicate, get_or-replicate, get_or-append, get_or-eq_default}
use lib.Seq.{get_or-append-add, get_or-take, get_or-drop}
use borrow.Author.Tests.{le-leb, lt-leb}
use Rattle.letters.proofs.Cases.{le_or_lt}
use Rattle.records.specs.Records.{kind_full, kind_last, block_letters, block_size, blocks, size_for, full_blocks, last_block, block_records, end_record}
use Rattle.records.specs.Steps.Places.{block_byte}
use Rattle.layout.specs.Layout.{Layout}
use Rattle.layout.specs.Share.{share_of}

-- the element of two lists in a row
pub append_at_left : (xs ys : List ℕ) (p : ℕ) → p < length xs → get_or (xs ++ ys) p 0 ≡ get_or xs p 0
append_at_left xs ys p h = get_or-append xs ys 0 p h

pub append_at_right : (xs ys : List ℕ) (p n : ℕ) → length xs ≡ n → n ≤ p → get_or (xs ++ ys) p 0 ≡ get_or ys (p - n) 0
append_at_right xs ys p n e h =
    ap (λ i. get_or (xs ++ ys) i 0) (back (length xs) p n e h) ∙ get_or-append-add xs ys (p - n) 0
  where
    back : (m p n : ℕ) → m ≡ n → n ≤ p → p ≡ m + (p - n)
    back m p n e h = omega arith

full_length : (count : ℕ) (letters : List ℕ) → count * block_letters ≤ length letters → length (full_blocks count letters) ≡ count * block_size
unfolding full_blocks
full_length zero letters h = refl
full_length (suc count) letters h =
    let rest : length (full_blocks count (drop block_letters letters)) ≡ count * block_size = full_length count (drop block_letters letters) (simp length-drop (omega arith)) in
    simp (length-append, length-take) (omega arith)

last_block_length : (rest : List ℕ) → 1 ≤ length rest → length rest ≤ block_letters → length (last_block rest) ≡ block_size
unfolding last_block
last_block_length [] lo hi = absurd (omega arith)
last_block_length (x ∷ rest) lo hi = simp (length-append, length-replicate) (omega arith)

-- in the full blocks: at the start of block r its kind, and then its letters
full_kind :
    (count : ℕ) (letters : List ℕ) (r : ℕ) → count * block_letters ≤ length letters → r < count
    → get_or (full_blocks count letters) (r * block_size) 0 ≡ kind_full
unfolding full_blocks
full_kind zero letters r h hr = absurd (omega arith)
full_kind (suc count) letters zero h hr = refl
full_kind (suc count) letters (suc r) h hr =
    append_at_right (kind_full ∷ take block_letters letters) (full_blocks count (drop block_letters letters)) (suc r * block_size) block_size (simp length-take (omega arith)) (omega arith)
    ∙ ap (λ i. get_or (full_blocks count (drop block_letters letters)) i 0) (next r)
    ∙ full_kind count (drop block_letters letters) r (simp length-drop (omega arith)) (omega arith)
  where
    next : (r : ℕ) → suc r * block_size - block_size ≡ r * block_size
    next r = omega arith

full_letter :
    (count : ℕ) (letters : List ℕ) (r j : ℕ) → count * block_letters ≤ length letters → r < count → j < block_letters
    → get_or (full_blocks count letters) (r * block_size + suc j) 0 ≡ get_or letters (r * block_letters + j) 0
unfolding full_blocks
full_letter zero letters r j h hr hj = absurd (omega arith)
full_letter (suc count) letters zero j h hr hj =
    ap (λ i. get_or (full_blocks (suc count) letters) i 0) (start j)
    ∙ append_at_left (kind_full ∷ take block_letters letters) (full_blocks count (drop block_letters letters)) (suc j) (simp length-take (omega arith))
    ∙ get_or-take block_letters letters j 0 hj
    ∙ ap (λ i. get_or letters i 0) (first j)
  where
    start : (j : ℕ) → 0 * block_size + suc j ≡ suc j
    start j = omega arith

    first : (j : ℕ) → j ≡ 0 * block_letters + j
    first j = omega arith
full_letter (suc count) letters (suc r) j h hr hj =
    append_at_right (kind_full ∷ take block_letters letters) (full_blocks count (drop block_letters letters)) (suc r * block_size + suc j) block_size (simp length-take (omega arith)) (omega arith)
    ∙ ap (λ i. get_or (full_blocks count (drop block_letters letters)) i 0) (next r j)
    ∙ full_letter count (drop block_letters letters) r j (simp length-drop (omega arith)) (omega arith) hj
    ∙ get_or-drop block_letters letters (r * block_letters + j) 0
    ∙ ap (λ i. get_or letters i 0) (further r j)
  where
    next : (r j : ℕ) → suc r * block_size + suc j - block_size ≡ r * block_size + suc j
    next r j = omega arith

    further : (r j : ℕ) → block_letters + (r * block_letters + j) ≡ suc r * block_letters + j
    further r j = omega arith

-- in the last block: its kind, the rest of the letters, and zeros
last_kind : (rest : List ℕ) → 1 ≤ length rest → get_or (last_block rest) 0 0 ≡ kind_last
unfolding last_block
last_kind [] lo = absurd (omega arith)
last_kind (x ∷ rest) lo = refl

last_letter :
    (rest : List ℕ) (j : ℕ) → 1 ≤ length rest → j < block_letters → get_or (last_block rest) (suc j) 0 ≡ get_or rest j 0
unfolding last_block
last_letter [] j lo hj = absurd (omega arith)
last_letter (x ∷ rest) j lo hj =
    ⊎_elim
    (λ past.
    append_at_right (x ∷ rest) (replicate (block_letters - length (x ∷ rest)) 0) j (length (x ∷ rest)) refl past
    ∙ get_or-replicate (block_letters - length (x ∷ rest)) (j - length (x ∷ rest)) 0 0 (omega arith)
    ∙ sym (get_or-eq_default (x ∷ rest) 0 past))
    (λ within. append_at_left (x ∷ rest) (replicate (block_letters - length (x ∷ rest)) 0) j within) (le_or_lt (length (x ∷ rest)) j)

-- the letters that the full blocks leave
abbrev last_letters : List ℕ → List ℕ
last_letters letters = drop (length letters / block_letters * block_letters) letters

rest_length : (letters : List ℕ) → length (last_letters letters) ≡ length letters % block_letters
rest_length letters = simp length-drop (omega arith)

-- where a block's letters divide T there is no last block
no_last : (letters : List ℕ) → length letters % block_letters ≡ 0 → last_block (last_letters letters) ≡ []
unfolding last_block
no_last letters e = none (last_letters letters) (rest_length letters ∙ e)
  where
    none : (xs : List ℕ) → length xs ≡ 0 → last_block xs ≡ []
    none [] e = refl
    none (x ∷ xs) e = absurd (omega arith)

blocks_length : (letters : List ℕ) → length (block_records letters) ≡ blocks (length letters) * block_size
unfolding block_records
blocks_length letters =
    length-append (full_blocks (length letters / block_letters) letters) (last_block (last_letters letters))
    ∙ ⊎_elim
    (λ divides.
    let e : length letters % block_letters ≡ 0 = omega arith in
    let none : length (last_block (last_letters letters)) ≡ 0 = ap length (no_last letters e) in
    omega (arith, full))
    (λ left.
    let one : length (last_block (last_letters letters)) ≡ block_size = last_block_length (last_letters letters) (omega (arith, rest_length letters)) (omega (arith, rest_length letters)) in
    omega (arith, full))
    (le_or_lt (length letters % block_letters) 0)
  where
    full : length (full_blocks (length letters / block_letters) letters) ≡ length letters / block_letters * block_size
    full = full_length (length letters / block_letters) letters (omega arith)

-- the byte at an offset of a block
module _ (letters : List ℕ) (r : ℕ) where
  in_full : (j : ℕ) → j < block_size → r < length letters / block_letters → get_or (full_blocks (length letters / block_letters) letters) (r * block_size + j) 0 ≡ block_byte letters r j
  in_full zero hj h =
      ap (λ i. get_or (full_blocks (length letters / block_letters) letters) i 0) (omega arith)
      ∙ full_kind (length letters / block_letters) letters r (omega arith) h
      ∙ simp (le-leb ((r + 1) * block_letters) (length letters) (omega arith))
  in_full (suc j) hj h = full_letter (length letters / block_letters) letters r j (omega arith) h (omega arith)

  in_last : (j : ℕ) → j < block_size → r ≡ length letters / block_letters → 1 ≤ length letters % block_letters → get_or (last_block (last_letters letters)) j 0 ≡ block_byte letters r j
  in_last zero hj e lo =
      last_kind (last_letters letters) (omega (arith, rest_length letters)) ∙ simp (lt-leb ((r + 1) * block_letters) (length letters) (omega arith))
  in_last (suc j) hj e lo =
      last_letter (last_letters letters) j (omega (arith, rest_length letters)) (omega arith)
      ∙ get_or-drop (length letters / block_letters * block_letters) letters j 0
      ∙ ap (λ i. get_or letters (i * block_letters + j) 0) (sym e)

  in_block : (j : ℕ) → j < block_size → r < blocks (length letters) → get_or (block_records letters) (r * block_size + j) 0 ≡ block_byte letters r j
  unfolding block_records
  in_block j hj hr =
      ⊎_elim
      (λ past.
      append_at_right (full_blocks (length letters / block_letters) letters) (last_block (last_letters letters)) (r * block_size + j) (length letters / block_letters * block_size)
      (full_length (length letters / block_letters) letters (omega arith)) (omega arith)
      ∙ ap (λ i. get_or (last_block (last_letters letters)) i 0) (offset past)
      ∙ in_last j hj (omega arith) (omega arith))
      (λ within.
      append_at_left (full_blocks (length letters / block_letters) letters) (last_block (last_letters letters)) (r * block_size + j)
      (omega (arith, full_length (length letters / block_letters) letters (omega arith)))
      ∙ in_full j hj within)
      (le_or_lt (length letters / block_letters) r)
    where
      offset : length letters / block_letters ≤ r → r * block_size + j - length letters / block_letters * block_size ≡ j
      offset h = omega arith

-- the byte at an offset of each record of a share
module _ {Head : Type 0} (y : Layout Head) (h : Head) (letters : List ℕ) where
  pub share_length : length (share_of y h letters) ≡ size_for (length (y.head_record h)) (length letters)
  unfolding share_of
  share_length = simp length-append (omega (arith, blocks_length letters))

  pub in_head : (p : ℕ) → p < length (y.head_record h) → get_or (share_of y h letters) p 0 ≡ get_or (y.head_record h) p 0
  unfolding share_of
  in_head p hp = append_at_left (y.head_record h) (block_records letters ++ end_record (length letters)) p hp

  past_head :
      (q : ℕ) → get_or (share_of y h letters) (length (y.head_record h) + q) 0 ≡ get_or (block_records letters ++ end_record (length letters)) q 0
  unfolding share_of
  past_head q = get_or-append-add (y.head_record h) (block_records letters ++ end_record (length letters)) q 0

  -- behind the head, of H bytes
  module _ (H : ℕ) (e : length (y.head_record h) ≡ H) where
    pub in_blocks :
        (r j : ℕ) → r < blocks (length letters) → j < block_size → get_or (share_of y h letters) (H + (r * block_size + j)) 0 ≡ block_byte letters r j
    in_blocks r j hr hj =
        ap (λ n. get_or (share_of y h letters) (n + (r * block_size + j)) 0) (sym e)
        ∙ past_head (r * block_size + j)
        ∙ append_at_left (block_records letters) (end_record (length letters)) (r * block_size + j) (omega (arith, blocks_length letters))
        ∙ in_block letters r j hj hr

    pub in_end :
        (j : ℕ) → get_or (share_of y h letters) (H + (blocks (length letters) * block_size + j)) 0 ≡ get_or (end_record (length letters)) j 0
    in_end j =
        ap (λ n. get_or (share_of y h letters) (n + (blocks (length letters) * block_size + j)) 0) (sym e)
        ∙ past_head (blocks (length letters) * block_size + j)
        ∙ append_at_right (block_records letters) (end_record (length letters)) (blocks (length letters) * block_size + j) (blocks (length letters) * block_size)
        (blocks_length letters) (omega arith)
        ∙ ap (λ i. get_or (end_record (length letters)) i 0) (offset (blocks (length letters)) j)
      where
        offset : (b j : ℕ) → b * block_size + j - b * block_size ≡ j
        offset b j = omega arith
