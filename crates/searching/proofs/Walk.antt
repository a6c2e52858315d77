-- Going through bytes record by record and byte by byte, as the search does, from any index of a share on.
use mathlib.Core.Path.{◌≡◌, ap, ap₂, sym, ◌∙◌}
use mathlib.Core.Bool.{true}
use mathlib.Core.List.{List}
use mathlib.Core.Logic.{⊎_elim}
use Prim.Native.Nat.{ℕ, zero, suc, min, ◌+◌, ◌-◌, ◌*◌, ◌≤◌, ◌<◌}
use native.Mathlib.Omega.{arith}
use lib.ListN.{length, get_or}
use Rattle.letters.proofs.Cases.{le_or_lt}
use Rattle.records.specs.Records.{block_size}
use Rattle.records.specs.Steps.Places.{stands_in, record_start, record_size, record_at, offset_at}
use Rattle.records.proofs.Places.{next_start, start_of_block, found, stands_placed}
use Rattle.skipping.specs.Steps.Skipping.{FullBlocks}
use Rattle.skipping.proofs.SteppedOver.{full_stand}
use Rattle.heads.specs.declared.Head.{Head}
use Rattle.kinds.specs.Kinds.{head_size}
use Rattle.heads.specs.Heads.{head_tests, heads}
use Rattle.heads.proofs.HeadLaws.{wide, batch_test}
use Rattle.searching.specs.Steps.Search.{stands_at, StepsOn}

-- no record is longer than a block, where the head isn't
pub size_at_most : (H nth : ℕ) → H ≤ block_size → record_size H nth ≤ block_size
size_at_most H zero h = h
size_at_most H (suc r) h = omega arith

-- In a record, of a share whose head has H bytes, of which the bytes from `start` up to `end` are there, and those up to `at` are passed. The bytes begin at index `base` of the
-- share, and that at `start` has this offset in the record.
pub record InRecord (H base count nth start offset end at : ℕ) : Type 0 where
  pub begins : base + start ≡ record_start H nth + offset
  pub from : start ≤ at
  pub until : at ≤ end
  pub there : end ≤ count
  pub size : offset + (end - start) ≤ record_size H nth
  pub whole : end < count → offset + (end - start) ≡ record_size H nth
  pub some : start < end

pub enter :
    (H base count at nth offset left end : ℕ) → at < count → nth ≡ record_at H (base + at) → offset ≡ offset_at H (base + at)
    → left ≡ record_size H nth - offset → end ≡ min (at + left) count
    → InRecord H base count nth at offset end at
enter H base count at nth offset left end h en eo el ee =
    let place : (offset < record_size H nth) × (base + at ≡ record_start H nth + offset) = rw (en, eo) (found H (base + at)) in
    record {
      begins = place.1;
      from = omega arith;
      until = omega (arith, place.0);
      there = omega arith;
      size = omega (arith, place.0);
      whole = λ l. omega (arith, place.0);
      some = omega (arith, place.0);
    }

pub offset_within :
    (H p nth offset size : ℕ) → nth ≡ record_at H p → offset ≡ offset_at H p → size ≡ record_size H nth → offset ≤ size
offset_within H p nth offset size en eo es = let w : offset < record_size H nth = rw (en, eo) (found H p).0 in omega arith

pub stride :
    (H base count nth start offset end at next : ℕ) → InRecord H base count nth start offset end at → at ≤ next → next ≤ end
    → InRecord H base count nth start offset end next
stride H base count nth start offset end at next w lo hi =
    record { begins = w.begins; from = omega (arith, w.from); until = hi; there = w.there; size = w.size; whole = w.whole; some = w.some }

-- no offset is as large as a block
pub offset_small :
    (H base count nth start offset end at : ℕ) → H ≤ block_size → InRecord H base count nth start offset end at → at < end → offset + (at - start) < block_size
offset_small H base count nth start offset end at few w h = omega (arith, size_at_most H nth few, w)

-- every byte so far stands
abbrev pub SoFar : ℕ → Head → List ℕ → ℕ → Type 0
SoFar base h ys at = (p : ℕ) → p < at → stands_at h (base + p) (get_or ys p 0) ≡ true

-- a byte is tested by its offset in its record
pub tested_at :
    (h : Head) (H T : ℕ) → H ≡ head_size h.kind → T ≡ heads.total h → (nth j p byte : ℕ) → j < record_size H nth → p ≡ record_start H nth + j
    → stands_at h p byte ≡ stands_in (head_tests h) T nth j byte
unfolding stands_at
tested_at h H T front total nth j p byte l e =
    ap₂ (λ f t. stands_in (head_tests h) t (record_at f p) (offset_at f p) byte) (sym front) (sym total)
    ∙ stands_placed H (head_tests h) T nth j p byte l e

-- past full blocks, which begin behind bytes that stand
pub past_blocks :
    (base : ℕ) (h : Head) (H T : ℕ) (ys : List ℕ) (start r next : ℕ) → H ≡ head_size h.kind → T ≡ heads.total h → SoFar base h ys start
    → (start < next → base + start ≡ H + r * block_size) → FullBlocks start ys T r next → SoFar base h ys next
unfolding stands_at
past_blocks base h H T ys start r next front total so_far begins full p l =
    ⊎_elim
    (λ later.
    ap₂ (λ f t. stands_in (head_tests h) t (record_at f (base + p)) (offset_at f (base + p)) (get_or ys p 0)) (sym front) (sym total)
    ∙ full_stand H base start ys T (head_tests h) r next p full (begins (omega arith)) later l)
    (so_far p) (le_or_lt start p)

-- the batch, the four bytes at the head's end, has no test
batch_free : (h : Head) (H : ℕ) → H ≡ head_size h.kind → (j : ℕ) → H ≤ j + 4 → get_or (head_tests h) j true ≡ true
unfolding head_size
batch_free h H front j l =
    let e : j ≡ 5 + wide h.kind + (j - (5 + wide h.kind)) = omega arith in
    ap (λ i. get_or (head_tests h) i true) e ∙ batch_test h (j - (5 + wide h.kind))

module _ (base : ℕ) (h : Head) (H T : ℕ) (ys : List ℕ) (front : H ≡ head_size h.kind) (total : T ≡ heads.total h) (nth start offset end at : ℕ)
    (w : InRecord H base (length ys) nth start offset end at) where
  -- a byte of the record is tested by its offset
  pub tested :
      (p : ℕ) → start ≤ p → p < end
      → stands_at h (base + p) (get_or ys p 0) ≡ stands_in (head_tests h) T nth (offset + (p - start)) (get_or ys p 0)
  tested p lo hi = tested_at h H T front total nth (offset + (p - start)) (base + p) (get_or ys p 0) (omega (arith, w)) (omega (arith, w))

  -- past a byte that stands and what is stepped over after it
  pub further :
      (next : ℕ) → at < end → SoFar base h ys at → stands_in (head_tests h) T nth (offset + (at - start)) (get_or ys at 0) ≡ true
      → StepsOn ys H T nth (offset + (at - start)) at end next → SoFar base h ys next
  further next inside so_far here skips p l =
      ⊎_elim
      (λ later.
      ⊎_elim (λ now. let e : p ≡ at = omega arith in rw e (tested at w.from inside ∙ here))
      (λ after.
      let same : offset + (p - start) ≡ offset + (at - start) + (p - at) = omega (arith, w.from) in
      tested p (omega (arith, w.from)) (omega (arith, skips.within))
      ∙ ap (λ j. stands_in (head_tests h) T nth j (get_or ys p 0)) same
      ∙ skips.stand (head_tests h) (batch_free h H front) p after l)
      (le_or_lt p at))
      (so_far p) (le_or_lt at p)

  -- where bytes are there after the record, the record is whole, and a block starts where it ends
  at_block : end ≤ at → at < length ys → base + at ≡ H + nth * block_size
  at_block done more = omega (arith, next_start H nth ∙ start_of_block H nth, w.whole (omega (arith, w)), w)

  -- past the record and the full blocks after it
  pub beyond : (next : ℕ) → end ≤ at → SoFar base h ys at → FullBlocks at ys T nth next → SoFar base h ys next
  beyond next done so_far full = past_blocks base h H T ys at nth next front total so_far (λ some. at_block done (omega (arith, full.there))) full
