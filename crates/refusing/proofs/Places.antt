-- How a byte is refused, by its place: after the end, a kind, a number of the head, a filler byte, the total.
use mathlib.Core.Path.{◌≡◌, refl, ◌∙◌}
use mathlib.Core.Bool.{Bool, true, false, cond}
use mathlib.Core.Logic.{⊎_elim}
use Prim.Native.Nat.{ℕ, ◌+◌, ◌-◌, ◌*◌, ◌%◌, ◌≤◌, ◌<◌}
use native.Mathlib.Omega.{arith}
use lib.Dec.{leb, ltb, eqb}
use borrow.Author.Tests.{lt-ltb, le-ltb, le-leb, lt-leb, eq-eqb, ne_eqb}
use Rattle.letters.proofs.Cases.{le_or_lt}
use Rattle.group.specs.declared.Refusal.{Refusal}
use Rattle.group.specs.declared.Refusal.TheVariants.{Kind, HeadNumber, Filler, Total, AfterEnd}
use Rattle.records.specs.Records.{block_size, blocks, size_for}
use Rattle.records.specs.Steps.Places.{offset_at}
use Rattle.records.proofs.Places.{head_at}
use Rattle.refusing.specs.Steps.Refusing.{refusal_at}

-- what the tests tell, whatever they test
module _ (after first in_head in_blocks : Bool) (no : after ≡ false) where
  abbrev tested : Refusal
  tested = cond after AfterEnd (cond first Kind (cond in_head HeadNumber (cond in_blocks Filler Total)))

  kind : first ≡ true → tested ≡ Kind
  kind e = rw (no, e) refl

  number : first ≡ false → in_head ≡ true → tested ≡ HeadNumber
  number e h = rw (no, e, h) refl

  fill : first ≡ false → in_head ≡ false → in_blocks ≡ true → tested ≡ Filler
  fill e h b = rw (no, e, h, b) refl

  last : first ≡ false → in_head ≡ false → in_blocks ≡ false → tested ≡ Total
  last e h b = rw (no, e, h, b) refl

-- so those of the code
module _ (front letters q : ℕ) where
  abbrev after : Bool
  after = leb (size_for front letters) q

  abbrev first : Bool
  first = eqb (offset_at front q) 0

  abbrev in_head : Bool
  in_head = ltb q front

  abbrev in_blocks : Bool
  in_blocks = ltb q (front + blocks letters * block_size)

  pub at_after : size_for front letters ≤ q → refusal_at front letters q ≡ AfterEnd
  unfolding refusal_at
  at_after h = simp (le-leb (size_for front letters) q h)

  module _ (within : q < size_for front letters) where
    pub at_kind : offset_at front q ≡ 0 → refusal_at front letters q ≡ Kind
    unfolding refusal_at
    at_kind e = kind after first in_head in_blocks (lt-leb (size_for front letters) q within) (eq-eqb (offset_at front q) 0 e)

    module _ (some : offset_at front q ≡ 0 → ⊥) where
      pub at_number : q < front → refusal_at front letters q ≡ HeadNumber
      unfolding refusal_at
      at_number h = number after first in_head in_blocks (lt-leb (size_for front letters) q within) (ne_eqb (offset_at front q) 0 some) (lt-ltb q front h)

      pub at_filler : front ≤ q → q < front + blocks letters * block_size → refusal_at front letters q ≡ Filler
      unfolding refusal_at
      at_filler h l =
          fill after first in_head in_blocks (lt-leb (size_for front letters) q within) (ne_eqb (offset_at front q) 0 some) (le-ltb q front h) (lt-ltb q (front + blocks letters * block_size) l)

      pub at_total : front + blocks letters * block_size ≤ q → refusal_at front letters q ≡ Total
      unfolding refusal_at
      at_total h =
          last after first in_head in_blocks (lt-leb (size_for front letters) q within) (ne_eqb (offset_at front q) 0 some) (le-ltb q front (omega arith)) (le-ltb q (front + blocks letters * block_size) h)

-- the offset of a byte past the head, and of the first of all
pub offset_past : (front q : ℕ) → front ≤ q → offset_at front q ≡ (q - front) % block_size
offset_past front q h = simp (le-ltb q front h)

pub offset_first : (front q : ℕ) → q ≡ 0 → offset_at front q ≡ 0
offset_first front q e = ⊎_elim (λ past. offset_past front q past ∙ omega arith) (λ within. (head_at front q within).1 ∙ e) (le_or_lt front q)
