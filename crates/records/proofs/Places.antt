-- Laws of places: where a record starts, which byte an index tells, and what can stand there, as the code takes them apart.
use mathlib.Core.Path.{◌≡◌, refl, sym, ap, ap₂, ◌∙◌}
use mathlib.Core.Bool.{Bool, false}
use mathlib.Core.List.{List}
use mathlib.Core.Logic.{⊎_elim}
use Prim.Native.Nat.{ℕ, zero, suc, ◌+◌, ◌-◌, ◌*◌, ◌/◌, ◌%◌, ◌≤◌, ◌<◌}
use native.Mathlib.Numerals.{add-one}
use native.Mathlib.Omega.{arith}
use lib.Dec.{ltb, eqb}
use borrow.Author.Tests.{lt-ltb, le-ltb, eq-eqb, ne_eqb}
use Rattle.letters.specs.Places.{either}
use Rattle.letters.proofs.Cases.{le_or_lt}
use Rattle.records.specs.Records.{block_letters, block_size, blocks}
use Rattle.records.specs.Steps.Places.{block_kind, block_stands, end_stands, record_stands, stands_in, record_start, record_size, record_at, offset_at}

-- a number that isn't 0 is one more than another
pub one_past : (n : ℕ) → (n ≡ 0 → ⊥) → n ≡ suc (n - 1)
one_past n h = omega (arith, h)

-- a block's kind is at its offset 0, and past it the letters are
pub block_first : (T r offset byte : ℕ) → offset ≡ 0 → block_stands T r offset byte ≡ eqb byte (block_kind T r)
unfolding block_stands
block_first T r offset byte e = rw e

pub block_later :
    (T r offset byte : ℕ) → (offset ≡ 0 → ⊥) → block_stands T r offset byte ≡ either (ltb (r * block_letters + (offset - 1)) T) (eqb byte 0)
unfolding block_stands
block_later T r offset byte n = ap (λ j. block_stands T r j byte) (one_past offset n)

-- past the head, by the number of blocks
module _ (T r j byte B : ℕ) (e : B ≡ blocks T) where
  pub record_block : r < B → record_stands T r j byte ≡ block_stands T r j byte
  unfolding record_stands
  record_block h = simp (lt-ltb r (blocks T) (omega arith))

  pub record_end : r ≡ B → record_stands T r j byte ≡ end_stands T j byte
  unfolding record_stands
  record_end h = simp (le-ltb r (blocks T) (omega arith), eq-eqb r (blocks T) (h ∙ e))

  pub record_none : B ≤ r → (r ≡ B → ⊥) → record_stands T r j byte ≡ false
  unfolding record_stands
  record_none h n = simp (le-ltb r (blocks T) (omega arith), ne_eqb r (blocks T) (λ q. n (q ∙ sym e)))

pub stands_past_head :
    (tests : List Bool) (T nth offset byte : ℕ) → (nth ≡ 0 → ⊥) → stands_in tests T nth offset byte ≡ record_stands T (nth - 1) offset byte
unfolding stands_in
stands_past_head tests T nth offset byte n = ap (λ i. stands_in tests T i offset byte) (one_past nth n)

-- the record and the offset of an index in a head of H bytes, and past it
module _ (H : ℕ) where
  pub head_at : (p : ℕ) → p < H → (record_at H p ≡ 0) × (offset_at H p ≡ p)
  head_at p h = (simp (lt-ltb p H h), simp (lt-ltb p H h))

  pub block_at : (r j : ℕ) → j < block_size → (record_at H (H + (r * block_size + j)) ≡ suc r) × (offset_at H (H + (r * block_size + j)) ≡ j)
  block_at r j h = (
    simp (le-ltb (H + (r * block_size + j)) H (omega arith)) (ap suc quotient),
    simp (le-ltb (H + (r * block_size + j)) H (omega arith)) remainder,
  )
    where
      quotient : (H + (r * block_size + j) - H) / block_size ≡ r
      quotient = omega arith

      remainder : (H + (r * block_size + j) - H) % block_size ≡ j
      remainder = omega arith

  -- records stand one after another
  pub next_start : (nth : ℕ) → record_start H nth + record_size H nth ≡ record_start H (nth + 1)
  next_start zero = omega arith
  next_start (suc r) = rw add-one (omega arith)

  pub start_of_block : (r : ℕ) → record_start H (r + 1) ≡ H + r * block_size
  start_of_block r = rw add-one refl

  -- the place at an offset of a record, and back
  pub placed : (nth j p : ℕ) → j < record_size H nth → p ≡ record_start H nth + j → (record_at H p ≡ nth) × (offset_at H p ≡ j)
  placed zero j p h e = let here : p ≡ j = omega arith in rw here (head_at j h)
  placed (suc r) j p h e = let here : p ≡ H + (r * block_size + j) = omega arith in rw here (block_at r j h)

  pub found : (p : ℕ) → (offset_at H p < record_size H (record_at H p)) × (p ≡ record_start H (record_at H p) + offset_at H p)
  found p = ⊎_elim past within (le_or_lt H p)
    where
      past : H ≤ p → (offset_at H p < record_size H (record_at H p)) × (p ≡ record_start H (record_at H p) + offset_at H p)
      past h = simp (le-ltb p H h) (omega arith, omega arith)

      within : p < H → (offset_at H p < record_size H (record_at H p)) × (p ≡ record_start H (record_at H p) + offset_at H p)
      within h = simp (lt-ltb p H h) (h, omega arith)

  -- so the test at an offset of a record is that of the byte's index
  pub stands_placed :
      (tests : List Bool) (T nth j p byte : ℕ) → j < record_size H nth → p ≡ record_start H nth + j
      → stands_in tests T (record_at H p) (offset_at H p) byte ≡ stands_in tests T nth j byte
  stands_placed tests T nth j p byte h e =
      let w = placed nth j p h e in ap₂ (λ n o. stands_in tests T n o byte) w.0 w.1
