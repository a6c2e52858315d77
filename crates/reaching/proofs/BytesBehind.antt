-- The bytes behind a head's numbers: which numbers bytes that can stand have, that such numbers have such bytes, and how they grow.
use mathlib.Core.Path.{◌≡◌, refl, sym, ap, subst, ◌∙◌}
use mathlib.Core.Bool.{Bool, true, false, cond}
use mathlib.Core.List.{List, [], ◌∷◌, ◌++◌}
use mathlib.Core.Logic.{⊎_elim}
use Prim.Native.Nat.{ℕ, zero, suc, ◌+◌, ◌-◌, ◌*◌, ◌/◌, ◌%◌, ◌≤◌, ◌<◌}
use native.Mathlib.Omega.{arith}
use lib.Dec.{ltb, eqb}
use lib.ListN.{length, get_or, take, length-append, get_or-append}
use lib.Seq.{take_all, get_or-take}
use borrow.Author.Tests.{eqb-true}
use Rattle.letters.specs.Lanes.{Bytes}
use Rattle.letters.specs.Places.{both, either}
use Rattle.letters.proofs.Cases.{le_or_lt}
use Rattle.records.specs.Records.{block_letters, block_size, end_size, blocks, size_for, end_record}
use Rattle.records.specs.Steps.Places.{block_kind, block_stands, end_stands, record_stands}
use Rattle.layout.proofs.Stands.{stands_head}
use Rattle.layout.proofs.Accepted.{Accepted, accepted_next, passes}
use Rattle.layout.proofs.Completing.{bytes_next, next_in_records, at_most}
use Rattle.layout.proofs.Judgments.{not_both}
use Rattle.heads.specs.declared.Head.{Head}
use Rattle.kinds.specs.Kinds.{head_size}
use Rattle.kinds.proofs.RowLaws.{size_some}
use Rattle.heads.specs.Heads.{head_record, HeadNumbers, head_in, heads}
use Rattle.heads.specs.Steps.Partly.{PartlyIn, head_after}
use Rattle.heads.proofs.HeadLaws.{lawful, record_long, own_below, same_numbers}
use Rattle.heads.proofs.FirstBytes.{first_long, first_at, all_in, numbers_back, passes_back, bytes_back, partly_of, own_first, any_next}
use Rattle.searching.specs.Steps.Search.{stands_at}
use Rattle.searching.proofs.Joining.{at_head, at_past}
use Rattle.reaching.specs.Steps.Reaching.{HeadAt}

-- bytes that can stand, so many, with these numbers
pub record Behind (zs : List ℕ) (h : Head) (at : ℕ) : Type 0 where
  pub bytes : Bytes zs
  pub all : Accepted heads zs
  pub long : length zs ≡ at
  pub told : heads.head_in zs ≡ h

-- their numbers are a head's where so many bytes can stand,
module _ (zs : List ℕ) (bytes : Bytes zs) (all : Accepted heads zs) where
  -- the size of the head, by its first byte
  abbrev front : ℕ
  front = head_size (get_or zs 0 0)

  pub numbers_of : HeadAt (heads.head_in zs) (length zs)
  unfolding head_in
  numbers_of =
      record {
        partly = λ few. partly_of zs bytes (omega arith) (passes heads lawful zs all (length zs) (omega arith) (omega arith));
        whole = λ long. lawful.ranged zs bytes long (passes heads lawful zs all front long (omega arith));
        share = λ long. at_most heads lawful zs long all;
      }

  -- and these are the numbers once others have come after them
  pub grown : (ys : List ℕ) → head_after (heads.head_in zs) (length zs) ys ≡ heads.head_in (zs ++ ys)
  unfolding head_in
  grown ys = ⊎_elim many few (le_or_lt front (length zs))
    where
      few : length zs < front → head_after (heads.head_in zs) (length zs) ys ≡ heads.head_in (zs ++ ys)
      few h = ap (λ xs. head_in (xs ++ ys)) (own_first zs bytes (omega arith))

      many : front ≤ length zs → head_after (heads.head_in zs) (length zs) ys ≡ heads.head_in (zs ++ ys)
      many h =
          ap (λ xs. head_in (xs ++ ys)) (take_all (length zs) (head_record (heads.head_in zs)) (omega (arith, record_long (heads.head_in zs))))
          ∙ same_numbers (head_record (heads.head_in zs) ++ ys) (zs ++ ys)
          (λ p hi.
          get_or-append (head_record (heads.head_in zs)) ys 0 p (omega (arith, record_long (heads.head_in zs)))
          ∙ sym (own_below zs bytes p hi)
          ∙ sym (get_or-append zs ys 0 p (omega arith)))

-- where the head is in, it grows no more
pub whole_grown : (h : Head) (at : ℕ) → HeadNumbers h → head_size h.kind ≤ at → (ys : List ℕ) → head_after h at ys ≡ h
whole_grown h at w long ys = ap (λ xs. head_in (xs ++ ys)) (take_all at (head_record h) (omega (arith, record_long h))) ∙ lawful.told h w ys

-- and such numbers have such bytes: the head's own, and then any that can stand
module _ (h : Head) where
  -- the size of the head
  abbrev size : ℕ
  size = head_size h.kind

  -- bytes that tell the head begin with its kind
  kind_told : (zs : List ℕ) → heads.head_in zs ≡ h → get_or zs 0 0 ≡ h.kind
  unfolding head_in
  kind_told zs told = ap (λ (g : Head). g.kind) told

  in_head : (at : ℕ) → at ≤ size → PartlyIn h at → Behind (take at (head_record h)) h at
  in_head at le w =
      let told = numbers_back h at le w in
      record {
        bytes = bytes_back h at le w;
        all =
            λ p l.
            stands_head heads (take at (head_record h)) p (omega (arith, first_long h at le, ap head_size (kind_told (take at (head_record h)) told)))
            ∙ passes_back h at le w p (omega (arith, first_long h at le));
        long = first_long h at le;
        told = told;
      }

  -- one byte more
  one_more : (zs : List ℕ) (at : ℕ) → size ≤ at → at < size_for size (heads.total h) → Behind zs h at → (xs : List ℕ) × Behind xs h (at + 1)
  one_more zs at long room b =
      let same : head_size (get_or zs 0 0) ≡ size = ap head_size (kind_told zs b.told) in
      let n = next_in_records heads lawful zs (omega (arith, b.long)) size (heads.total h) same (ap heads.total b.told) (omega (arith, b.long)) in (
        zs ++ n.0 ∷ [],
        record {
          bytes = bytes_next zs n.0 b.bytes n.1;
          all = accepted_next heads lawful zs n.0 b.all n.2;
          long = length-append zs (n.0 ∷ []) ∙ omega (arith, b.long);
          told = sym (same_numbers zs (zs ++ n.0 ∷ []) (λ p hi. sym (get_or-append zs (n.0 ∷ []) 0 p (omega (arith, b.long))))) ∙ b.told;
        },
      )

  past_head : (m : ℕ) → HeadNumbers h → size + m ≤ size_for size (heads.total h) → (zs : List ℕ) × Behind zs h (size + m)
  past_head zero w room =
      let e : size ≡ size + 0 = omega arith in
      (take size (head_record h), subst (Behind (take size (head_record h)) h) e (in_head size (omega arith) (all_in h w)))
  past_head (suc m) w room =
      let b = past_head m w (omega arith) in
      let n = one_more b.0 (size + m) (omega arith) (omega arith) b.1 in
      let e : size + m + 1 ≡ size + suc m = omega arith in
      (n.0, subst (Behind n.0 h) e n.1)

  pub some_behind : (at : ℕ) → HeadAt h at → (zs : List ℕ) × Behind zs h at
  some_behind at w =
      ⊎_elim
      (λ long.
      let e : size + (at - size) ≡ at = omega arith in
      let b = past_head (at - size) (w.whole long) (omega (arith, w.share long)) in
      (b.0, subst (Behind b.0 h) e b.1))
      (λ few. (take at (head_record h), in_head at (omega arith) (w.partly few)))
      (le_or_lt size at)

-- Where 0 and 255 can stand in a record past the head, any byte can: it is a letter.
any_between : (T r j byte : ℕ) → record_stands T r j 0 ≡ true → record_stands T r j 255 ≡ true → record_stands T r j byte ≡ true
unfolding record_stands block_stands end_stands
any_between T r j byte = by (ltb r (blocks T)) (eqb r (blocks T)) j
  where
    two : (x : ℕ) → eqb 0 x ≡ true → eqb 255 x ≡ true → ⊥
    two x low high = omega (arith, eqb-true 0 x low, eqb-true 255 x high)

    either_false : (b : Bool) → either b false ≡ true → b ≡ true
    either_false true e = refl
    either_false false e = e

    in_block : (j : ℕ) → block_stands T r j 0 ≡ true → block_stands T r j 255 ≡ true → block_stands T r j byte ≡ true
    in_block zero low high = absurd (two (block_kind T r) low high)
    in_block (suc j) low high = rw (either_false (ltb (r * block_letters + j) T) high) refl

    in_end : (b c : Bool) (x : ℕ) → both b (both c (eqb 0 x)) ≡ true → both b (both c (eqb 255 x)) ≡ true → ⊥
    in_end true true x low high = two x low high
    in_end true false x low high = not_both false low refl
    in_end false c x low high = not_both false low refl

    by :
        (b e : Bool) (j : ℕ) → cond b (block_stands T r j 0) (both e (end_stands T j 0)) ≡ true
        → cond b (block_stands T r j 255) (both e (end_stands T j 255)) ≡ true → cond b (block_stands T r j byte) (both e (end_stands T j byte)) ≡ true
    by true e j low high = in_block j low high
    by false e j low high = absurd (in_end e (ltb j end_size) (get_or (end_record T) j 0) low high)

-- So it is anywhere: in the head it is a byte of a number that isn't tested there, or the range has them all.
module _ (h : Head) (at : ℕ) (w : HeadAt h at) where
  -- the head with a byte more, where it is in and where it isn't
  past :
      head_size h.kind ≤ at → (byte : ℕ)
      → stands_at (head_after h at (byte ∷ [])) at byte
      ≡ record_stands (heads.total h) ((at - head_size h.kind) / block_size) ((at - head_size h.kind) % block_size) byte
  past long byte = ap (λ g. stands_at g at byte) (whole_grown h at (w.whole long) long (byte ∷ [])) ∙ at_past h at byte long

  module _ (few : at < head_size h.kind) where
    first : List ℕ
    first = take at (head_record h)

    kind_of : 1 ≤ at → get_or first 0 0 ≡ h.kind
    unfolding first
    kind_of some = get_or-take at (head_record h) 0 0 (omega arith)

    here : (byte : ℕ) → at < head_size (get_or (first ++ byte ∷ []) 0 0)
    unfolding first
    here byte =
        ⊎_elim (λ some. omega (arith, ap head_size (first_at h at (omega arith) (byte ∷ []) 0 (omega arith))))
        (λ none. omega (arith, size_some (get_or (first ++ byte ∷ []) 0 0)))
        (le_or_lt 1 at)

    within : (byte : ℕ) → stands_at (head_after h at (byte ∷ [])) at byte ≡ get_or (heads.head_tests (first ++ byte ∷ [])) at true
    unfolding first head_in
    within byte = at_head (head_after h at (byte ∷ [])) at byte (here byte)

    any_within :
        get_or (heads.head_tests (first ++ 0 ∷ [])) at true ≡ true → get_or (heads.head_tests (first ++ 255 ∷ [])) at true ≡ true
        → (byte : ℕ) → byte < 256 → get_or (heads.head_tests (first ++ byte ∷ [])) at true ≡ true
    unfolding first
    any_within low high byte small =
        any_next first (bytes_back h at (omega arith) (w.partly few)) byte small at
        (⊎_elim (λ some. omega (arith, ap head_size (kind_of some))) (λ none. omega (arith, size_some (get_or first 0 0))) (le_or_lt 1 at))
        (first_long h at (omega arith)) low high

  pub any_stands :
      stands_at (head_after h at (0 ∷ [])) at 0 ≡ true → stands_at (head_after h at (255 ∷ [])) at 255 ≡ true
      → (byte : ℕ) → byte < 256 → stands_at (head_after h at (byte ∷ [])) at byte ≡ true
  any_stands low high byte small =
      ⊎_elim
      (λ long.
      past long byte
      ∙ any_between (heads.total h) ((at - head_size h.kind) / block_size) ((at - head_size h.kind) % block_size) byte (sym (past long 0) ∙ low) (sym (past long 255) ∙ high))
      (λ few. within few byte ∙ any_within few (sym (within few 0) ∙ low) (sym (within few 255) ∙ high) byte small)
      (le_or_lt (head_size h.kind) at)
