-- Bytes that all stand are the beginning of a share: unless they are one already, some byte can stand after them, and no
-- share is longer than its head says.
use mathlib.Core.Path.{◌≡◌, refl, sym, ap, ◌∙◌}
use mathlib.Core.Bool.{Bool, true, false, cond}
use mathlib.Core.List.{List, [], ◌∷◌, ◌++◌, append-nil, append_assoc}
use mathlib.Core.Logic.{⊎_elim}
use Prim.Native.Nat.{ℕ, zero, suc, ◌+◌, ◌-◌, ◌*◌, ◌≤◌, ◌<◌}
use native.Mathlib.Omega.{arith}
use lib.Dec.{leb}
use lib.ListN.{length, get_or, length-append}
use lib.Seq.{get_or_at}
use borrow.Author.Tests.{eq-eqb}
use Rattle.letters.proofs.Cases.{le_or_lt, eq_or_ne}
use Rattle.records.specs.Records.{kind_full, kind_last, block_letters, block_size, end_size, blocks, size_for, end_record}
use Rattle.records.specs.Steps.Places.{block_kind, block_stands}
use Rattle.layout.specs.Layout.{Layout, size_in, total_in}
use Rattle.letters.specs.Lanes.{Bytes}
use Rattle.layout.specs.Share.{ShareOf}
use Rattle.layout.specs.Judgment.{CanStand}
use Rattle.layout.specs.Steps.Stands.{stands}
use Rattle.layout.specs.Laws.{Lawful}
use Rattle.layout.proofs.LaidOut.{append_at_left, append_at_right}
use Rattle.layout.proofs.Stands.{head, block, end, some_place, stands_head, stands_block, stands_end, stands_not, letter_stands}
use Rattle.layout.proofs.Accepted.{Accepted, accepted_next, size_with, total_with, passes, share_in, own_letters}

-- a byte that can stand in a block: its kind, or 0, which is a letter and a filler byte
next_in_block : ℕ → ℕ → ℕ → ℕ
next_in_block T r zero = block_kind T r
next_in_block T r (suc j) = 0

block_next : (T r j : ℕ) → (next_in_block T r j < 256) × (block_stands T r j (next_in_block T r j) ≡ true)
unfolding next_in_block block_stands
block_next T r zero = (kind (leb ((r + 1) * block_letters) T), eq-eqb (block_kind T r) (block_kind T r) refl)
  where
    kind : (b : Bool) → cond b kind_full kind_last < 256
    kind true = omega arith
    kind false = omega arith
block_next T r (suc j) = (omega arith, letter_stands T r j 0 (λ h. refl))

end_is_byte : (T j : ℕ) → j < end_size → get_or (end_record T) j 0 < 256
end_is_byte T zero h = omega arith
end_is_byte T (suc zero) h = omega arith
end_is_byte T (suc (suc zero)) h = omega arith
end_is_byte T (suc (suc (suc zero))) h = omega arith
end_is_byte T (suc (suc (suc (suc zero)))) h = omega arith
end_is_byte T (suc (suc (suc (suc (suc j))))) h = absurd (omega arith)

pub bytes_joined : (xs ys : List ℕ) → Bytes xs → Bytes ys → Bytes (xs ++ ys)
bytes_joined xs ys a b =
    record {
      below =
          λ i l.
          ⊎_elim
          (λ past.
          let e : get_or (xs ++ ys) i 0 ≡ get_or ys (i - length xs) 0 = append_at_right xs ys i (length xs) refl past in
          rw e (b.below (i - length xs) (omega (arith, length-append xs ys))))
          (λ within. let e : get_or (xs ++ ys) i 0 ≡ get_or xs i 0 = append_at_left xs ys i within in rw e (a.below i within))
          (le_or_lt (length xs) i);
    }

pub bytes_next : (xs : List ℕ) (byte : ℕ) → Bytes xs → byte < 256 → Bytes (xs ++ byte ∷ [])
bytes_next xs byte bytes h =
    bytes_joined xs (byte ∷ []) bytes (record { below = λ i l. let e : i ≡ 0 = omega arith in rw e h })

-- what can stand next
abbrev pub Next : {Head : Type 0} → Layout Head → List ℕ → Type 0
Next y xs = (byte : ℕ) × (byte < 256) × (stands y (xs ++ byte ∷ []) (length xs) ≡ true)

module _ {Head : Type 0} (y : Layout Head) (law : Lawful y) where
  -- as many as the head says: a share, and nothing else is
  pub whole_share :
      (xs : List ℕ) → Bytes xs → Accepted y xs → length xs ≡ size_for (size_in y xs) (total_in y xs) → ShareOf y (y.head_in xs) (own_letters y xs) xs
  whole_share xs bytes a e = share_in y law xs bytes a (omega arith) (size_in y xs) (total_in y xs) refl refl e

  whole_stands : (xs : List ℕ) → Bytes xs → Accepted y xs → length xs ≡ size_for (size_in y xs) (total_in y xs) → CanStand y xs
  whole_stands xs bytes a e = ([], (y.head_in xs, own_letters y xs, rw append-nil (whole_share xs bytes a e)))

  next_in_head : (xs : List ℕ) → Bytes xs → Accepted y xs → length xs < size_in y xs → Next y xs
  next_in_head xs bytes a h =
      let n = law.next xs bytes h (passes y law xs a (length xs) (omega arith) (omega arith)) in
      (n.0, n.1, stands_head y (xs ++ n.0 ∷ []) (length xs) (within n.0) ∙ n.2)
    where
      within : (byte : ℕ) → length xs < size_in y (xs ++ byte ∷ [])
      within byte =
          ⊎_elim (λ none. omega (arith, law.some (get_or (xs ++ byte ∷ []) 0 0))) (λ some. omega (arith, size_with y law xs (byte ∷ []) some))
          (le_or_lt (length xs) 0)

  module _ (xs : List ℕ) (long : size_in y xs ≤ length xs) where
    nonempty : 1 ≤ length xs
    nonempty = omega (arith, law.some (get_or xs 0 0))

    pub next_in_records : (H T : ℕ) → size_in y xs ≡ H → total_in y xs ≡ T → length xs < size_for H T → Next y xs
    next_in_records H T eh et h =
        elim (some_place H T (length xs)) [
          | head q ↦ absurd (omega (arith, eh))
          | block r j hr hj e ↦
              let byte = next_in_block T r j in (
                byte,
                (block_next T r j).0,
                ap (stands y (xs ++ byte ∷ [])) e
                    ∙ stands_block y (xs ++ byte ∷ []) H T (size byte) (total byte) r j hr hj
                    ∙ ap (block_stands T r j) (get_or_at xs byte [] 0 (H + (r * block_size + j)) e)
                    ∙ (block_next T r j).1,
              )
          | end j e ↦
              let byte = get_or (end_record T) j 0 in
              let within : j < end_size = omega arith in (
                byte,
                end_is_byte T j within,
                ap (stands y (xs ++ byte ∷ [])) e
                    ∙ stands_end y (xs ++ byte ∷ []) H T (size byte) (total byte) j within
                    ∙ eq-eqb _ _ (get_or_at xs byte [] 0 (H + (blocks T * block_size + j)) e),
              )
        ]
      where
        size : (byte : ℕ) → size_in y (xs ++ byte ∷ []) ≡ H
        size byte = size_with y law xs (byte ∷ []) nonempty ∙ eh

        total : (byte : ℕ) → total_in y (xs ++ byte ∷ []) ≡ T
        total byte = total_with y law xs (byte ∷ []) long ∙ et

    -- no more than the head says
    pub at_most : Accepted y xs → length xs ≤ size_for (size_in y xs) (total_in y xs)
    at_most a =
        ⊎_elim (λ h. h)
        (λ over.
        let no : true ≡ false =
        sym (a (size_for (size_in y xs) (total_in y xs)) over)
        ∙ stands_not y xs (size_in y xs) (total_in y xs) refl refl (size_for (size_in y xs) (total_in y xs)) (omega arith)
        in
        let z : ◌≡◌ {A = ℕ} 0 1 = cc in absurd (omega arith))
        (le_or_lt (length xs) (size_for (size_in y xs) (total_in y xs)))

  -- one byte more
  stepped : (xs : List ℕ) (byte : ℕ) → CanStand y (xs ++ byte ∷ []) → CanStand y xs
  stepped xs byte s = (byte ∷ s.0, rw append_assoc at s.1)

  -- so past the head, until there are as many as it says
  in_records :
      (fuel : ℕ) (xs : List ℕ) → Bytes xs → Accepted y xs → size_in y xs ≤ length xs → size_for (size_in y xs) (total_in y xs) ≤ length xs + fuel
      → CanStand y xs
  in_records zero xs bytes a long f = whole_stands xs bytes a (omega (arith, at_most xs long a))
  in_records (suc fuel) xs bytes a long f =
      ⊎_elim (whole_stands xs bytes a)
      (λ more.
      let n = next_in_records xs long (size_in y xs) (total_in y xs) refl refl (omega (arith, at_most xs long a, more)) in
      let one = length-append xs (n.0 ∷ []) in
      let size = size_with y law xs (n.0 ∷ []) (nonempty xs long) in
      let total = total_with y law xs (n.0 ∷ []) long in
      stepped xs n.0
      (in_records fuel (xs ++ n.0 ∷ []) (bytes_next xs n.0 bytes n.1) (accepted_next y law xs n.0 a n.2) (omega (arith, one, size))
      (omega (arith, one, size, ap (size_for (size_in y (xs ++ n.0 ∷ []))) total))))
      (eq_or_ne (length xs) (size_for (size_in y xs) (total_in y xs)))

  -- and before that until the head is there
  in_head : (fuel : ℕ) (xs : List ℕ) → Bytes xs → Accepted y xs → 1 ≤ length xs → size_in y xs ≤ length xs + fuel → CanStand y xs
  in_head zero xs bytes a some f = in_records (size_for (size_in y xs) (total_in y xs)) xs bytes a (omega arith) (omega arith)
  in_head (suc fuel) xs bytes a some f =
      ⊎_elim (λ long. in_records (size_for (size_in y xs) (total_in y xs)) xs bytes a long (omega arith))
      (λ short.
      let n = next_in_head xs bytes a short in
      let one = length-append xs (n.0 ∷ []) in
      stepped xs n.0
      (in_head fuel (xs ++ n.0 ∷ []) (bytes_next xs n.0 bytes n.1) (accepted_next y law xs n.0 a n.2) (omega (arith, one))
      (omega (arith, one, size_with y law xs (n.0 ∷ []) some))))
      (le_or_lt (size_in y xs) (length xs))

  pub can_stand : (xs : List ℕ) → Bytes xs → Accepted y xs → CanStand y xs
  can_stand xs bytes a =
      ⊎_elim
      (λ none.
      let n = next_in_head xs bytes a (omega (arith, law.some (get_or xs 0 0))) in
      stepped xs n.0
      (in_head (size_in y (xs ++ n.0 ∷ [])) (xs ++ n.0 ∷ []) (bytes_next xs n.0 bytes n.1) (accepted_next y law xs n.0 a n.2)
      (omega (arith, length-append xs (n.0 ∷ []))) (omega arith)))
      (λ some. in_head (size_in y xs) xs bytes a some (omega arith))
      (le_or_lt (length xs) 0)
