-- What is stepped over past the head: letters, and full blocks; and how the search goes on behind them.
use mathlib.Core.Path.{◌≡◌, refl, sym, ap, ap₂, subst, ◌∙◌}
use mathlib.Core.Bool.{true}
use mathlib.Core.List.{List}
use mathlib.Core.Logic.{⊎_elim}
use Prim.Native.Nat.{ℕ, zero, suc, ◌+◌, ◌-◌, ◌*◌, ◌/◌, ◌≤◌, ◌<◌}
use native.Mathlib.Omega.{arith}
use lib.ListN.{length, get_or, take, drop, length-drop}
use lib.Seq.{get_or-drop, take_all}
use Rattle.letters.proofs.Cases.{le_or_lt}
use Rattle.records.specs.Records.{block_letters, block_size, size_for, total_limit}
use Rattle.records.specs.Steps.Places.{record_start, record_size, record_at, offset_at}
use Rattle.records.proofs.Places.{found}
use Rattle.skipping.specs.Steps.Skipping.{Lettered, FullBlocks}
use Rattle.heads.specs.declared.Head.{Head}
use Rattle.kinds.specs.Kinds.{head_size}
use Rattle.kinds.proofs.RowLaws.{size_small}
use Rattle.heads.specs.Heads.{head_tests, heads}
use Rattle.searching.specs.Steps.Search.{stands_at, farthest, StopsFrom}
use Rattle.searching.proofs.Walk.{tested_at, past_blocks}
use Rattle.reaching.specs.Steps.Reaching.{Stepped}

-- where a byte past the head stands
record PastHeadAt (kind nth offset at : ℕ) : Type 0 where
  past : 1 ≤ nth
  begins : at ≡ head_size kind + (nth - 1) * block_size + offset
  starts : at ≡ record_start (head_size kind) nth + offset
  size : record_size (head_size kind) nth ≡ block_size
  within : offset < block_size

placed : (kind nth offset at : ℕ) → head_size kind ≤ at → nth ≡ record_at (head_size kind) at → offset ≡ offset_at (head_size kind) at → PastHeadAt kind nth offset at
placed kind nth offset at long en eo = by nth (rw (en, eo) (found (head_size kind) at))
  where
    by : (nth : ℕ) → (offset < record_size (head_size kind) nth) × (at ≡ record_start (head_size kind) nth + offset) → PastHeadAt kind nth offset at
    by zero w = absurd (omega (arith, w.0, w.1))
    by (suc r) w = record { past = omega arith; begins = omega (arith, w.1); starts = w.1; size = refl; within = w.0 }

-- of bytes that come at index `at` the first ones stand, and block r begins behind them, if it is a full one
record BlockBegins (kind at T : ℕ) (ys : List ℕ) (start r : ℕ) : Type 0 where
  within : start ≤ length ys
  few : start ≤ block_letters
  before : (h : Head) → kind ≡ h.kind → T ≡ heads.total h → (p : ℕ) → p < start → stands_at h (at + p) (get_or ys p 0) ≡ true
  block : (r + 1) * block_letters ≤ T → at + start ≡ head_size kind + r * block_size

-- full blocks behind them
module _ (kind at T : ℕ) (ys : List ℕ) (start r next : ℕ) (b : BlockBegins kind at T ys start r) (w : FullBlocks start ys T r next) where
  full_stands : (h : Head) → kind ≡ h.kind → T ≡ heads.total h → (p : ℕ) → p < next → stands_at h (at + p) (get_or ys p 0) ≡ true
  full_stands h same total =
      past_blocks at h (head_size kind) T ys start r next (ap head_size same) total (b.before h same total) (λ some. b.block (omega (arith, w.full 0 (omega arith)))) w

  -- they end no farther than the share does
  still_near : at ≤ size_for (head_size kind) T → T < total_limit → at + next ≤ farthest
  still_near near small =
      ⊎_elim (λ none. omega (arith, b.few, size_small kind))
      (λ some. omega (arith, b.few, size_small kind, w.full ((next - 1 - start) / block_size) (omega arith)))
      (le_or_lt next start)

  full_stepped : at ≤ size_for (head_size kind) T → T < total_limit → Stepped kind at T ys next
  full_stepped near small = record { within = w.there; near = still_near near small; stand = full_stands }

module _ (ys : List ℕ) (kind T nth offset at : ℕ) (long : head_size kind ≤ at) (near : at ≤ size_for (head_size kind) T) (small : T < total_limit)
    (en : nth ≡ record_at (head_size kind) at) (eo : offset ≡ offset_at (head_size kind) at) where
  p : PastHeadAt kind nth offset at
  p = placed kind nth offset at long en eo

  pub past_first : 1 ≤ nth
  past_first = p.past

  -- at a record's start there are no letters before the blocks
  pub from_start : offset ≡ 0 → (next : ℕ) → FullBlocks 0 ys T (nth - 1) next → Stepped kind at T ys next
  from_start first next w =
      full_stepped kind at T ys 0 (nth - 1) next
      (record { within = omega arith; few = omega arith; before = λ h same e q l. absurd (omega arith); block = λ full. omega (arith, p.begins) })
      w near small

  -- else there are
  module _ (some : offset ≡ 0 → ⊥) (count : ℕ) (w : Lettered T nth (offset - 1) count) where
    letters_stand : (h : Head) → kind ≡ h.kind → T ≡ heads.total h → (q : ℕ) → q < count → stands_at h (at + q) (get_or ys q 0) ≡ true
    letters_stand h same total q l =
        tested_at h (head_size kind) T (ap head_size same) total nth (offset + q) (at + q) (get_or ys q 0) (omega (arith, p.size, w.inside (omega arith), some)) (omega (arith, p.starts))
        ∙ w.any (head_tests h) (offset + q) (get_or ys q 0) (omega (arith, some)) (omega (arith, some))

    pub all_letters : length ys ≤ count → Stepped kind at T ys (length ys)
    all_letters all =
        record { within = omega arith; near = omega (arith, w.few, size_small kind); stand = λ h same total q l. letters_stand h same total q (omega arith) }

    pub past_letters : count ≤ length ys → (next : ℕ) → FullBlocks count ys T nth next → Stepped kind at T ys next
    past_letters more next f =
        full_stepped kind at T ys count nth next
        (record {
          within = more;
          few = w.few;
          before = letters_stand;
          block = λ full. omega (arith, p.begins, w.whole p.past (omega arith) (omega (arith, p.within)), some, p.past);
        })
        f near small

-- all of them
pub all_stepped : (kind at T : ℕ) (h : Head) (ys : List ℕ) (count : ℕ) → kind ≡ h.kind → T ≡ heads.total h → Stepped kind at T ys count → count ≡ length ys → StopsFrom at h ys count
all_stepped kind at T h ys count same total w all = record { within = w.within; before = w.stand h same total; wrong = λ l. absurd (omega arith) }

-- the search goes on behind bytes that stand
pub goes_on :
    (base : ℕ) (h : Head) (ys : List ℕ) (n q : ℕ) → n ≤ length ys → ((p : ℕ) → p < n → stands_at h (base + p) (get_or ys p 0) ≡ true)
    → StopsFrom (base + n) h (take (length ys - n) (drop n ys)) q → StopsFrom base h ys (n + q)
goes_on base h ys n q within before part =
    let s = subst (λ zs. StopsFrom (base + n) h zs q) (take_all (length ys - n) (drop n ys) (omega (arith, length-drop n ys))) part in
    record {
      within = omega (arith, s.within, length-drop n ys);
      before =
          λ p l.
          ⊎_elim
          (λ later. let e : n + (p - n) ≡ p = omega arith in rw (sym e) (same (p - n) ∙ s.before (p - n) (omega arith)))
          (before p) (le_or_lt n p);
      wrong = λ l. same q ∙ s.wrong (omega (arith, length-drop n ys));
    }
  where
    same : (i : ℕ) → stands_at h (base + (n + i)) (get_or ys (n + i) 0) ≡ stands_at h (base + n + i) (get_or (drop n ys) i 0)
    same i = let e : base + (n + i) ≡ base + n + i = omega arith in ap₂ (stands_at h) e (sym (get_or-drop n ys i 0))
