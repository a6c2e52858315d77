-- Bytes that all stand: whether a byte stands depends on no later one, a share's bytes all stand, and bytes that all stand
-- are a share where they are as many as their own head says.
use mathlib.Core.Path.{◌≡◌, refl, sym, ap, ap₂, ◌∙◌}
use mathlib.Core.Bool.{true}
use mathlib.Core.List.{List, [], ◌∷◌, ◌++◌}
use mathlib.Core.Logic.{⊎_elim}
use Prim.Native.Nat.{ℕ, zero, suc, ◌+◌, ◌-◌, ◌*◌, ◌/◌, ◌%◌, ◌≤◌, ◌<◌}
use native.Mathlib.Omega.{arith}
use lib.Dec.{ltb, eqb}
use lib.ListN.{length, get_or, length-append, get_or-append, get_or-eq_default}
use lib.Seq.{ext_get_or}
use borrow.Author.Tests.{le-ltb, eqb-true}
use Rattle.letters.specs.Places.{either}
use Rattle.letters.proofs.Cases.{le_or_lt}
use Rattle.layout.proofs.Entries.{listed, listed_at}
use Rattle.records.specs.Records.{block_letters, block_size, end_size, blocks, size_for, end_record}
use Rattle.records.specs.Steps.Places.{block_kind, block_byte, block_stands, record_stands, letter_in}
use Rattle.layout.specs.Layout.{Layout, size_in, total_in}
use Rattle.letters.specs.Lanes.{Bytes}
use Rattle.layout.specs.Share.{share_of, ShareOf}
use Rattle.layout.specs.Steps.Stands.{stands}
use Rattle.layout.specs.Laws.{Lawful, SameBelow, Passes}
use Rattle.layout.proofs.LaidOut.{in_head, in_blocks, in_end, share_length}
use Rattle.layout.proofs.Stands.{head, block, end, some_place, stands_head, stands_block, stands_end, stands_past, own_stand}

-- every byte stands
abbrev pub Accepted : {Head : Type 0} → Layout Head → List ℕ → Type 0
Accepted y xs = (p : ℕ) → p < length xs → stands y xs p ≡ true

-- the letters that bytes of a share of T letters have, behind a head of H bytes
abbrev pub letters_in : ℕ → List ℕ → ℕ → List ℕ
letters_in H xs T = listed (letter_in H xs) 0 T

-- those of their own T
abbrev pub own_letters : {Head : Type 0} → Layout Head → List ℕ → List ℕ
own_letters y xs = letters_in (size_in y xs) xs (total_in y xs)

listed_length : (rule : ℕ → ℕ) (i n : ℕ) → length (listed rule i n) ≡ n
listed_length rule i zero = refl
listed_length rule i (suc n) = ap suc (listed_length rule (suc i) n)

letter_in_lem : (H : ℕ) (xs : List ℕ) (T i : ℕ) → i < T → get_or (letters_in H xs T) i 0 ≡ letter_in H xs i
letter_in_lem H xs T i h = listed_at (letter_in H xs) 0 T i h ∙ ap (letter_in H xs) (omega arith)

-- a byte past the letters is 0
filler : (T i byte : ℕ) → either (ltb i T) (eqb byte 0) ≡ true → T ≤ i → byte ≡ 0
filler T i byte e h = eqb-true byte 0 (simp (le-ltb i T h) at e)

-- the place of a letter, by its index and by its block
letter_place : (r j : ℕ) → j < block_letters → r * block_size + suc j ≡ (r * block_letters + j) / block_letters * block_size + suc ((r * block_letters + j) % block_letters)
letter_place r j h = omega arith

-- a letter is within its share
letter_within : (H T i : ℕ) → i < T → H + (i / block_letters * block_size + suc (i % block_letters)) < size_for H T
letter_within H T i h = omega arith

module _ {Head : Type 0} (y : Layout Head) (law : Lawful y) where
  -- two lists that have the same bytes up to p have the same test there
  pub same_stands : (xs zs : List ℕ) (p : ℕ) → SameBelow (suc p) xs zs → stands y xs p ≡ stands y zs p
  same_stands xs zs p e =
      ⊎_elim
      (λ past.
      stands_past y xs (size_in y xs) (total_in y xs) refl refl p past
      ∙ ap₂ (λ t byte. record_stands t ((p - size_in y xs) / block_size) ((p - size_in y xs) % block_size) byte)
      (ap y.total (law.same_head xs zs (λ i l. e i (omega arith)))) (e p (omega arith))
      ∙ sym (stands_past y zs (size_in y xs) (total_in y zs) size refl p past))
      (λ within. stands_head y xs p within ∙ law.same_test xs zs p within e ∙ sym (stands_head y zs p (omega (arith, size))))
      (le_or_lt (size_in y xs) p)
    where
      size : size_in y zs ≡ size_in y xs
      size = ap y.head_size (sym (e 0 (omega arith)))

  -- bytes and others after them
  pub stands_with : (xs ys : List ℕ) (p : ℕ) → p < length xs → stands y (xs ++ ys) p ≡ stands y xs p
  stands_with xs ys p h = same_stands (xs ++ ys) xs p (λ i l. get_or-append xs ys 0 i (omega arith))

  pub accepted_before : (xs ys : List ℕ) → Accepted y (xs ++ ys) → Accepted y xs
  accepted_before xs ys a p h = sym (stands_with xs ys p h) ∙ a p (simp length-append (omega arith))

  pub size_with : (xs ys : List ℕ) → 1 ≤ length xs → size_in y (xs ++ ys) ≡ size_in y xs
  size_with xs ys h = ap y.head_size (get_or-append xs ys 0 0 h)

  pub total_with : (xs ys : List ℕ) → size_in y xs ≤ length xs → total_in y (xs ++ ys) ≡ total_in y xs
  total_with xs ys h = ap y.total (sym (law.same_head xs (xs ++ ys) (λ i l. sym (get_or-append xs ys 0 i (omega arith)))))

  pub accepted_next :
      (xs : List ℕ) (byte : ℕ) → Accepted y xs → stands y (xs ++ byte ∷ []) (length xs) ≡ true → Accepted y (xs ++ byte ∷ [])
  accepted_next xs byte a s p h =
      let l : p < length xs + 1 = rw length-append at h in
      ⊎_elim (λ at. let e : p ≡ length xs = omega arith in ap (stands y (xs ++ byte ∷ [])) e ∙ s)
      (λ before. stands_with xs (byte ∷ []) p before ∙ a p before)
      (le_or_lt (length xs) p)

  -- a share's bytes all stand
  pub share_accepted : (h : Head) (letters xs : List ℕ) → ShareOf y h letters xs → Accepted y xs
  share_accepted h letters xs s =
      rw s.is (λ p l. own_stand y law h letters s.allowed s.count p (omega (arith, share_length y h letters)))

  -- the bytes before the end of the head pass their tests
  pub passes : (xs : List ℕ) → Accepted y xs → (n : ℕ) → n ≤ length xs → n ≤ size_in y xs → Passes y xs n
  passes xs a n l m p h = sym (stands_head y xs p (omega arith)) ∙ a p (omega arith)

  module _ (xs : List ℕ) (bytes : Bytes xs) (a : Accepted y xs) (long : size_in y xs ≤ length xs) where
    all_pass : Passes y xs (size_in y xs)
    all_pass = passes xs a (size_in y xs) long (omega arith)

    -- the head's numbers are in range
    allowed_in : y.Allowed (y.head_in xs)
    allowed_in = law.ranged xs bytes long all_pass

    record_size_lem : length (y.head_record (y.head_in xs)) ≡ size_in y xs
    record_size_lem =
        law.sized (y.head_in xs) allowed_in ∙ ap y.head_size (sym (law.own xs bytes long all_pass 0 (law.some (get_or xs 0 0))))

    -- as many as the head, of H bytes, says: the bytes are a share
    module _ (H T : ℕ) (eh : size_in y xs ≡ H) (et : total_in y xs ≡ T) (whole : length xs ≡ size_for H T) where
      letters_long : length (letters_in H xs T) ≡ T
      letters_long = listed_length (letter_in H xs) 0 T

      block_byte_lem :
          (r j : ℕ) → r < blocks T → j < block_size → get_or xs (H + (r * block_size + j)) 0 ≡ block_byte (letters_in H xs T) r j
      unfolding block_stands
      block_byte_lem r zero hr hj =
          eqb-true _ _ (sym (stands_block y xs H T eh et r 0 hr hj) ∙ a (H + (r * block_size + 0)) (omega arith))
          ∙ ap (λ t. block_kind t r) (sym letters_long)
      block_byte_lem r (suc j) hr hj =
          let fits = sym (stands_block y xs H T eh et r (suc j) hr hj) ∙ a (H + (r * block_size + suc j)) (omega arith) in
          ⊎_elim
          (λ past.
          filler T (r * block_letters + j) (get_or xs (H + (r * block_size + suc j)) 0) fits past
          ∙ sym (get_or-eq_default (letters_in H xs T) 0 (omega (arith, letters_long))))
          (λ within.
          ap (λ i. get_or xs (H + i) 0) (letter_place r j (omega arith))
          ∙ sym (letter_in_lem H xs T (r * block_letters + j) within))
          (le_or_lt T (r * block_letters + j))

      end_byte : (j : ℕ) → j < end_size → get_or xs (H + (blocks T * block_size + j)) 0 ≡ get_or (end_record T) j 0
      end_byte j hj =
          eqb-true _ _ (sym (stands_end y xs H T eh et j hj) ∙ a (H + (blocks T * block_size + j)) (omega arith))

      letters_bytes : Bytes (letters_in H xs T)
      letters_bytes =
          record {
            below =
                λ i h.
                let l : i < T = omega (arith, letters_long) in
                rw (letter_in_lem H xs T i l) (bytes.below (H + (i / block_letters * block_size + suc (i % block_letters))) (omega (arith, letter_within H T i l)));
          }

      share_byte : (p : ℕ) → p < length xs → get_or xs p 0 ≡ get_or (share_of y (y.head_in xs) (letters_in H xs T)) p 0
      share_byte p l =
          elim (some_place H (length letters) p) [
            | head q ↦
                law.own xs bytes long all_pass p (omega (arith, eh))
                ∙ sym (in_head y (y.head_in xs) letters p (omega (arith, record_size_lem, eh)))
            | block r j hr hj e ↦
                ap (λ i. get_or xs i 0) e
                ∙ block_byte_lem r j (omega (arith, ap blocks letters_long)) hj
                ∙ sym (in_blocks y (y.head_in xs) letters H (record_size_lem ∙ eh) r j hr hj)
                ∙ ap (λ i. get_or (share_of y (y.head_in xs) letters) i 0) (sym e)
            | end j e ↦
                ap (λ i. get_or xs i 0) (e ∙ ap (λ t. H + (blocks t * block_size + j)) letters_long)
                ∙ end_byte j (omega (arith, letters_long))
                ∙ ap (λ t. get_or (end_record t) j 0) (sym letters_long)
                ∙ sym (in_end y (y.head_in xs) letters H (record_size_lem ∙ eh) j)
                ∙ ap (λ i. get_or (share_of y (y.head_in xs) letters) i 0) (sym e)
          ]
        where
          letters : List ℕ
          letters = letters_in H xs T

      pub share_in : ShareOf y (y.head_in xs) (letters_in H xs T) xs
      share_in =
          record {
            allowed = allowed_in;
            count = letters_long ∙ sym et;
            bytes = letters_bytes;
            is =
                ext_get_or 0 xs (share_of y (y.head_in xs) (letters_in H xs T))
                (whole ∙ ap₂ size_for (sym (record_size_lem ∙ eh)) (sym letters_long) ∙ sym (share_length y (y.head_in xs) (letters_in H xs T)))
                share_byte;
          }
