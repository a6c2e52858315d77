-- What the reader steps over: letters, and whole full blocks. Every byte stands there.
use mathlib.Core.Path.{◌≡◌, refl, sym, ◌∙◌}
use mathlib.Core.Bool.{Bool, true, false}
use mathlib.Core.List.{List}
use Prim.Native.Nat.{ℕ, zero, suc, ◌+◌, ◌-◌, ◌*◌, ◌/◌, ◌%◌, ◌≤◌, ◌<◌}
use native.Mathlib.Omega.{arith}
use lib.Dec.{ltb}
use lib.ListN.{get_or}
use borrow.Author.Tests.{lt-ltb, le-leb, eq-eqb}
use Rattle.letters.specs.Places.{either}
use Rattle.records.specs.Records.{kind_full, block_letters, block_size, blocks}
use Rattle.records.specs.Steps.Places.{block_kind, record_stands, stands_in, record_at, offset_at}
use Rattle.skipping.specs.Steps.Skipping.{Lettered, FullBlocks}
use Rattle.records.proofs.Places.{block_first, block_later, stands_past_head, record_block, stands_placed}

-- at an offset of a block past its kind and up to its last letter any byte stands
any_letter : (T r j byte : ℕ) → (j ≡ 0 → ⊥) → r < blocks T → r * block_letters + (j - 1) < T → record_stands T r j byte ≡ true
any_letter T r j byte past within lettered =
    record_block T r j byte (blocks T) refl within ∙ block_later T r j byte past ∙ simp (lt-ltb (r * block_letters + (j - 1)) T lettered)

-- and a zero stands past the kind in any case
zero_past : (T r j : ℕ) → (j ≡ 0 → ⊥) → r < blocks T → record_stands T r j 0 ≡ true
zero_past T r j past within =
    record_block T r j 0 (blocks T) refl within ∙ block_later T r j 0 past ∙ either_true (ltb (r * block_letters + (j - 1)) T)
  where
    either_true : (b : Bool) → either b true ≡ true
    either_true true = refl
    either_true false = refl

pub letters_behind :
    (T nth offset count : ℕ) → (nth ≡ 0 → ⊥) → nth ≤ blocks T → offset + count ≤ block_letters → offset + count ≤ T - (nth - 1) * block_letters
    → (nth * block_letters ≤ T → offset + count ≡ block_letters) → Lettered T nth offset count
letters_behind T nth offset count past within few left whole =
    record {
      few = omega arith;
      inside = λ some. few;
      whole = λ a b c. whole b;
      any =
          λ tests j byte lo hi.
          stands_past_head tests T nth j byte past ∙ any_letter T (nth - 1) j byte (λ e. omega arith) (omega (arith, past)) (omega arith);
      filled =
          λ some tests j lo. stands_past_head tests T nth j 0 past ∙ zero_past T (nth - 1) j (λ e. omega arith) (omega (arith, past));
    }

-- in a whole full block with its kind every byte stands
in_full :
    (tests : List Bool) (T r j byte : ℕ) → (r + 1) * block_letters ≤ T → j < block_size → (j ≡ 0 → byte ≡ kind_full)
    → stands_in tests T (suc r) j byte ≡ true
unfolding stands_in
in_full tests T r zero byte fits hj kind =
    record_block T r 0 byte (blocks T) refl (omega arith)
    ∙ block_first T r 0 byte refl
    ∙ eq-eqb byte (block_kind T r) (kind refl ∙ sym (simp (le-leb ((r + 1) * block_letters) T fits)))
in_full tests T r (suc j) byte fits hj kind = any_letter T r (suc j) byte (λ z. omega arith) (omega arith) (omega arith)

-- so every byte of the full blocks stands, where block r begins at this index of the bytes and these begin at index `base` of the share
pub full_stand :
    (H base start : ℕ) (xs : List ℕ) (T : ℕ) (tests : List Bool) (r end p : ℕ) → FullBlocks start xs T r end → base + start ≡ H + r * block_size
    → start ≤ p → p < end
    → stands_in tests T (record_at H (base + p)) (offset_at H (base + p)) (get_or xs p 0) ≡ true
full_stand H base start xs T tests r end p w begins lo hi =
    let begun : start + q * block_size < end = omega arith in
    stands_placed H tests T (suc (r + q)) j (base + p) (get_or xs p 0) (omega arith) (omega arith)
    ∙ in_full tests T (r + q) j (get_or xs p 0) (w.full q begun) (omega arith) (λ first. let here : p ≡ start + q * block_size = omega arith in rw here (w.kinds q begun))
  where
    q : ℕ
    q = (p - start) / block_size

    j : ℕ
    j = (p - start) % block_size
