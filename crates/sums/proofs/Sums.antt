-- Laws of sums of several runs: one run, one run more, a block of them, and what is laid of a block.
use mathlib.Core.Path.{◌≡◌, refl, sym, ap, ap₂, ◌∙◌}
use mathlib.Core.List.{List}
use Prim.Native.Nat.{ℕ, ◌+◌, ◌-◌, ◌≤◌, ◌<◌}
use native.Mathlib.Nat.{zero-add, sub-zero}
use native.Mathlib.Omega.{arith}
use lib.Bits.{bit_xor}
use lib.ListN.{length, get_or, take, drop}
use lib.Seq.{get_or-take, get_or-drop, length-take-le}
use Rattle.letters.specs.Algebra.{xors, sum}
use Rattle.letters.specs.Runs.{added}
use Rattle.letters.specs.Laid.{Laid}
use Rattle.letters.specs.Steps.Rests.{widest_block}
use Rattle.letters.proofs.Sums.{none_plus, sum_more, sum_same}
use Rattle.letters.proofs.Runs.{length_added, added_from}
use Rattle.letters.proofs.Laying.{laid_as, laid_on}
use Rattle.sums.specs.Sums.{run_start, sum_at, RunsInside, NoneBefore, BlockOf}

-- the run that starts at the i-th index of the list, counted from 0 as the code counts
pub fits_at : (starts : List ℕ) (n count long : ℕ) → RunsInside starts n count long → (i : ℕ) → i < n → get_or starts i 0 + count ≤ long
fits_at starts n count long w i h = omega (arith, w.fits (i + 1) (omega arith) (omega arith), ap (λ j. get_or starts j 0) back)
  where
    back : i + 1 - 1 ≡ i
    back = omega arith

-- as many runs, of fewer letters each, in a buffer that is no shorter
pub inside_fewer :
    (starts : List ℕ) (n count fewer long longer : ℕ) → fewer ≤ count → long ≤ longer → RunsInside starts n count long
    → RunsInside starts n fewer longer
inside_fewer starts n count fewer long longer h l w =
    record { some = w.some; many = w.many; fits = λ u lo hi. omega (arith, w.fits u lo hi) }

-- no run starts before the letters that are laid, so that they end inside the buffer, too
pub ends_inside : (starts : List ℕ) (n count long to : ℕ) → RunsInside starts n count long → NoneBefore starts n to → to + count ≤ long
ends_inside starts n count long to w later = omega (arith, w.fits 1 (omega arith) w.some, later.from 1 (omega arith) w.some)

module _ (from starts : List ℕ) where
  -- one run more: the code counts runs from 0
  pub sum_at_more : (n q : ℕ) → sum_at from starts (n + 1) q ≡ bit_xor (sum_at from starts n q) (get_or from (get_or starts n 0 + q) 0)
  unfolding sum_at
  sum_at_more n q =
      sum_more xors n (λ u. get_or from (run_start starts u + q) 0)
      ∙ ap (λ i. bit_xor (sum xors n (λ u. get_or from (run_start starts u + q) 0)) (get_or from (get_or starts i 0 + q) 0)) back
    where
      back : n + 1 - 1 ≡ n
      back = omega arith

  pub sum_at_none : (q : ℕ) → sum_at from starts 0 q ≡ 0
  unfolding sum_at sum
  sum_at_none q = refl

  pub sum_at_one : (q : ℕ) → sum_at from starts 1 q ≡ get_or from (get_or starts 0 0 + q) 0
  sum_at_one q =
      sum_at_more 0 q
      ∙ ap (λ x. bit_xor x (get_or from (get_or starts 0 0 + q) 0)) (sum_at_none q)
      ∙ none_plus xors (get_or from (get_or starts 0 0 + q) 0)

  -- letter q of the block of a run
  run_letter_lem : (at q start : ℕ) → q < widest_block → get_or (take widest_block (drop (start + at) from)) q 0 ≡ get_or from (start + (at + q)) 0
  run_letter_lem at q start h =
      get_or-take widest_block (drop (start + at) from) q 0 h ∙ get_or-drop (start + at) from q 0 ∙ ap (λ i. get_or from i 0) (further start at q)
    where
      further : (start at q : ℕ) → start + at + q ≡ start + (at + q)
      further start at q = omega arith

  -- the first run's letters, taken
  pub block_first : (at : ℕ) (block : List ℕ) → widest_block ≡ length block → take widest_block block ≡ take widest_block (drop (get_or starts 0 0 + at) from) → BlockOf from starts 1 at block
  block_first at block long e =
      record {
        long = sym long;
        letters =
            λ q h.
            sym (get_or-take widest_block block q 0 h)
            ∙ ap (λ l. get_or l q 0) e
            ∙ run_letter_lem at q (get_or starts 0 0) h
            ∙ sym (sum_at_one (at + q));
      }

  -- the letters of one run more, added
  pub block_more :
      (n at : ℕ) (block after : List ℕ) → BlockOf from starts n at block
      → after ≡ added xors block 0 (take widest_block (drop (get_or starts n 0 + at) from)) → BlockOf from starts (n + 1) at after
  block_more n at block after b e =
      record {
        long = ap length e ∙ length_added xors block 0 (take widest_block (drop (get_or starts n 0 + at) from)) ∙ b.long;
        letters =
            λ q h.
            ap (λ l. get_or l q 0) e
            ∙ added_from xors block 0 (take widest_block (drop (get_or starts n 0 + at) from)) q (omega arith) (omega (arith, b.long))
            ∙ ap₂ bit_xor (b.letters q h) (ap (λ i. get_or (take widest_block (drop (get_or starts n 0 + at) from)) i 0) (sub-zero q) ∙ run_letter_lem at q (get_or starts n 0) h)
            ∙ sym (sum_at_more n (at + q));
      }

  -- what is laid of a block is the sum
  pub block_laid :
      (n at : ℕ) (block xs ys : List ℕ) (a b : ℕ) (letter : ℕ → ℕ) → BlockOf from starts n at block → b ≤ a + widest_block
      → Laid xs ys a b (λ p. get_or block (0 + (p - a)) 0) → ((p : ℕ) → a ≤ p → p < b → sum_at from starts n (at + (p - a)) ≡ letter p)
      → Laid xs ys a b letter
  block_laid n at block xs ys a b letter w few laid same =
      laid_as xs ys a b (λ p. get_or block (0 + (p - a)) 0) letter
      (λ p lo hi. ap (λ i. get_or block i 0) (zero-add (p - a)) ∙ w.letters (p - a) (omega arith) ∙ same p lo hi) laid

-- what is read at or past the letters that are laid is as it came, and so is the sum
pub sum_at_same :
    (xs ys starts : List ℕ) (n to a at q : ℕ) (f : ℕ → ℕ) → NoneBefore starts n to → Laid xs ys a (to + at) f → at ≤ q
    → sum_at ys starts n q ≡ sum_at xs starts n q
unfolding sum_at
sum_at_same xs ys starts n to a at q f later w h =
    sum_same xors n (λ u. get_or ys (run_start starts u + q) 0) (λ u. get_or xs (run_start starts u + q) 0)
    (λ u lo hi. w.after (run_start starts u + q) (omega (arith, later.from u lo hi)))

-- and one that starts `at` behind `to`
behind : (p to at : ℕ) → to + at ≤ p → at + (p - (to + at)) ≡ p - to
behind p to at h = omega arith

-- the sum of a block within one buffer, as all of it came
pub sum_within :
    (xs ys starts : List ℕ) (n to a at p : ℕ) (f : ℕ → ℕ) → NoneBefore starts n to → Laid xs ys a (to + at) f → to + at ≤ p
    → sum_at ys starts n (at + (p - (to + at))) ≡ sum_at xs starts n (p - to)
sum_within xs ys starts n to a at p f later w h =
    ap (sum_at ys starts n) (behind p to at h) ∙ sum_at_same xs ys starts n to a at (p - to) f later w (omega arith)

-- the same within one buffer
pub laid_within :
    (starts : List ℕ) (n first to : ℕ) (block xs ys zs : List ℕ) (count : ℕ) → NoneBefore starts n to → BlockOf xs starts n 0 block → first ≤ widest_block → first ≤ count
    → Laid xs ys to (to + first) (λ p. get_or block (0 + (p - to)) 0) → Laid ys zs (to + first) (to + count) (λ p. sum_at ys starts n (p - to))
    → Laid xs zs to (to + count) (λ p. sum_at xs starts n (p - to))
laid_within starts n first to block xs ys zs count later w few h front rest =
    laid_on xs ys zs to (to + first) (to + count) (λ p. sum_at xs starts n (p - to)) (omega arith) (omega arith) begun
    (laid_as ys zs (to + first) (to + count) (λ p. sum_at ys starts n (p - to)) (λ p. sum_at xs starts n (p - to))
    (λ p lo hi. sum_at_same xs ys starts n to to first (p - to) (λ p. sum_at xs starts n (p - to)) later begun (omega arith)) rest)
  where
    begun : Laid xs ys to (to + first) (λ p. sum_at xs starts n (p - to))
    begun =
        block_laid xs starts n 0 block xs ys to (to + first) (λ p. sum_at xs starts n (p - to)) w (omega arith) front
        (λ p lo hi. ap (sum_at xs starts n) (zero-add (p - to)))

-- The runs that start at the first n numbers of a list, where a caller lends these alone.
module _ (starts : List ℕ) (n : ℕ) where
  start_taken : (u : ℕ) → 1 ≤ u → u ≤ n → run_start (take n starts) u ≡ run_start starts u
  start_taken u lo hi = get_or-take n starts (u - 1) 0 (omega arith)

  pub inside_taken : (count long : ℕ) → RunsInside starts n count long → RunsInside (take n starts) (length (take n starts)) count long
  inside_taken count long w =
      let all = length-take-le n starts w.many in
      record { some = omega (arith, w.some); many = omega arith; fits = λ u lo hi. omega (arith, start_taken u lo (omega arith), w.fits u lo (omega arith)) }

  pub none_before_taken : (to : ℕ) → n ≤ length starts → NoneBefore starts n to → NoneBefore (take n starts) (length (take n starts)) to
  none_before_taken to many w =
      let all = length-take-le n starts many in
      record { from = λ u lo hi. omega (arith, start_taken u lo (omega arith), w.from u lo (omega arith)) }

  pub sum_at_taken : (from : List ℕ) (q : ℕ) → n ≤ length starts → sum_at from (take n starts) (length (take n starts)) q ≡ sum_at from starts n q
  unfolding sum_at
  sum_at_taken from q many =
      rw (length-take-le n starts many)
      (sum_same xors n (λ u. get_or from (run_start (take n starts) u + q) 0) (λ u. get_or from (run_start starts u + q) 0)
      (λ u lo hi. ap (λ s. get_or from (s + q) 0) (start_taken u lo hi)))
