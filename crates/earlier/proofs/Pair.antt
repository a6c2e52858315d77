-- What a run reads of a sequence from before the tile is one stretch of letters: those of rounds up to `done` that lie inside the sequence, each `lag` rounds before the letter that reads it.
use mathlib.Core.Path.{◌≡◌, refl, sym, ap, ap₂, ◌∙◌}
use mathlib.Core.List.{List}
use mathlib.Core.Logic.{⊎_elim}
use Prim.Native.Nat.{ℕ, ◌+◌, ◌-◌, ◌*◌, ◌≤◌, ◌<◌, min}
use native.Mathlib.Nat.{eq-or-lt_of_le}
use native.Mathlib.Omega.{arith}
use lib.Bits.{bit_xor}
use lib.ListN.{get_or}
use Rattle.letters.specs.Algebra.{xors}
use Rattle.letters.proofs.Cases.{le_or_lt}
use Rattle.letters.proofs.Places.{letter_inside}
use Rattle.system.specs.System.{sequence}
use Rattle.system.specs.Order.{Ordered, delay}
use Rattle.system.proofs.System.{index_below, sequence_inside, sequences}
use Rattle.tiles.specs.Even.{lag}
use Rattle.tiles.specs.Tile.{start_of, run_of}
use Rattle.tiles.proofs.Even.{lag_is}
use Rattle.tiles.proofs.Runs.{run_letter_lem}
use Rattle.tiles.proofs.Taking.{taken_piece}
use Rattle.spans.specs.Steps.Spans.{Reads, ReadsBefore, RunPlaced, HasBegun}
use Rattle.earlier.specs.Steps.{AddedFrom, TakesOne}
use Rattle.spans.proofs.Reading.{reads_same}

-- a sequence lies in the buffer
pub sequence_end : (s n a : ℕ) → 1 ≤ n → 1 ≤ a → a ≤ s → (a - 1) * n + n ≤ s * n
sequence_end s n a some la ha = omega (arith, index_below s n a n la ha some (omega arith))

module _ {s n : ℕ} {t : ℕ → ℕ → ℕ} {done count b a : ℕ} (some : 1 ≤ n) (placed : RunPlaced s n t done count b) (begun : HasBegun s t done a) where
  -- the run lies in its sequence
  run_fits : (done - delay t b) + count ≤ n
  run_fits = fits (delay t b) placed.begun placed.not_over
    where
      fits : (d : ℕ) → d ≤ done → done + count ≤ n + d → (done - d) + count ≤ n
      fits d h l = omega arith

  module _ {skip place len : ℕ} (reads : ReadsBefore n t done count b a skip place len) where
    -- the letters that are added to lie in the buffer,
    pub to_fits : (start_of t n done b + skip) + len ≤ s * n
    to_fits =
        fits ((b - 1) * n) (done - delay t b) reads.inside run_fits
        (sequence_end s n b some placed.some_rank placed.few-ranks)
      where
        fits : (row d : ℕ) → skip + len ≤ count → d + count ≤ n → row + n ≤ s * n → ((row + d) + skip) + len ≤ s * n
        fits row d h l e = omega arith

    -- so do those that are added,
    pub from_fits : ((a - 1) * n + (place - 1)) + len ≤ s * n
    from_fits = fits ((a - 1) * n) (done - delay t a) reads.from_one reads.up_to (sequence_end s n a some begun.some_rank begun.few-ranks)
      where
        fits : (row d : ℕ) → 1 ≤ place → place + len ≤ min n d + 1 → row + n ≤ s * n → (row + (place - 1)) + len ≤ s * n
        fits row d h l e = omega arith

    -- and where they lie after those they are letters of a higher rank, so that they lie apart
    pub apart :
        start_of t n done b + skip < (a - 1) * n + (place - 1) → (start_of t n done b + skip) + len ≤ (a - 1) * n + (place - 1)
    apart h =
        ⊎_elim
        (λ l.
        absurd
        (⊎_elim
        (λ e. own ((b - 1) * n) ((a - 1) * n) (done - delay t b) (done - delay t a) reads.up_to (ap (λ r. (r - 1) * n) e) (ap (λ r. done - delay t r) e) h)
        (λ l. lower ((b - 1) * n) ((a - 1) * n) (done - delay t b) (done - delay t a) reads.up_to (index_below (b - 1) n a n begun.some_rank (omega arith) some (omega arith)) h)
        (eq-or-lt_of_le l)))
        (λ l.
        higher ((b - 1) * n) ((a - 1) * n) (done - delay t b) run_fits reads.inside
        (index_below (a - 1) n b n placed.some_rank (omega arith) some (omega arith)))
        (le_or_lt a b)
      where
        own :
            (row row' d d' : ℕ) → place + len ≤ min n d' + 1 → row' ≡ row → d' ≡ d → (row + d) + skip < row' + (place - 1) → ⊥
        own row row' d d' l same alike h = omega arith

        lower :
            (row row' d d' : ℕ) → place + len ≤ min n d' + 1 → row' + (n - 1) < row → (row + d) + skip < row' + (place - 1) → ⊥
        lower row row' d d' l e h = omega arith

        higher :
            (row row' d : ℕ) → d + count ≤ n → skip + len ≤ count → row + (n - 1) < row'
            → ((row + d) + skip) + len ≤ row' + (place - 1)
        higher row row' d h l e = omega arith

    module _ (ordered : Ordered s t) {xs ys : List ℕ} (laid : AddedFrom xs ys (start_of t n done b + skip) ((a - 1) * n + (place - 1)) len) where
      -- the place that letter p reads lies lag rounds before it
      by_lag : Reads (done + 1) (lag t b a + delay t a) (min n (done - delay t a)) count skip place len
      by_lag =
          reads_same (((done - delay t b) + 1) + t b b) (t b a) (done + 1) (lag t b a + delay t a) (min n (done - delay t a)) count skip place
          len
          (same (delay t b) (t b b) (t b a) (lag t b a) (delay t a) placed.begun
          (lag_is s t ordered b a placed.some_rank placed.few-ranks begun.some_rank begun.few-ranks))
          reads
        where
          same :
              (d own moved l d' : ℕ) → d ≤ done → l + (own + d') ≡ moved + d → (((done - d) + 1) + own) + (l + d') ≡ (done + 1) + moved
          same d own moved l d' h e = omega arith

      run_at :
          (zs : List ℕ) (p : ℕ) → 1 ≤ p → p ≤ count → run_of 0 t done count (sequence 0 zs n) b p ≡ get_or zs (start_of t n done b + (p - 1)) 0
      run_at zs p lp hp =
          run_letter_lem 0 zs n t done count b p run_fits ∙ letter_inside 0 zs (start_of t n done b) count p lp hp

      kept :
          (p : ℕ) → 1 ≤ p → p ≤ count → get_or ys (start_of t n done b + (p - 1)) 0 ≡ get_or xs (start_of t n done b + (p - 1)) 0
          → run_of 0 t done count (sequence 0 ys n) b p ≡ run_of 0 t done count (sequence 0 xs n) b p
      kept p lp hp e = run_at ys p lp hp ∙ e ∙ sym (run_at xs p lp hp)

      -- a letter that is read
      new :
          (p q : ℕ) → skip < p → p ≤ skip + len → p ≤ count → q ≡ ((done + p) - lag t b a) - delay t a
          → run_of 0 t done count (sequence 0 ys n) b p ≡ bit_xor (run_of 0 t done count (sequence 0 xs n) b p) (sequence 0 xs n a q)
      new p q ls hl hp e =
          run_at ys p (omega arith) hp
          ∙ laid.laid (start_of t n done b + (p - 1)) (after (start_of t n done b) p ls) (upto (start_of t n done b) p ls hl)
          ∙ ap₂ bit_xor (sym (run_at xs p (omega arith) hp))
          (ap (λ i. get_or xs i 0) (index ((a - 1) * n) (start_of t n done b) p q ls is reads.from_one)
          ∙ sym (sequence_inside 0 xs n a q (from_one p q ls is reads.from_one) (inside p q (done - delay t a) ls hl is reads.up_to)))
        where
          after : (from p : ℕ) → skip < p → from + skip ≤ from + (p - 1)
          after from p h = omega arith

          upto : (from p : ℕ) → skip < p → p ≤ skip + len → from + (p - 1) < (from + skip) + len
          upto from p h l = omega arith

          at : (l d : ℕ) → place + (l + d) ≡ (done + 1) + skip → 1 ≤ place → q ≡ ((done + p) - l) - d → q + (skip + 1) ≡ place + p
          at l d here lo e = omega arith

          is : q + (skip + 1) ≡ place + p
          is = at (lag t b a) (delay t a) (by_lag.here (omega arith)) reads.from_one e

          index :
              (row from p q : ℕ) → skip < p → q + (skip + 1) ≡ place + p → 1 ≤ place
              → (row + (place - 1)) + ((from + (p - 1)) - (from + skip)) ≡ row + (q - 1)
          index row from p q h e lo = omega arith

          from_one : (p q : ℕ) → skip < p → q + (skip + 1) ≡ place + p → 1 ≤ place → 1 ≤ q
          from_one p q h e lo = omega arith

          inside : (p q d : ℕ) → skip < p → p ≤ skip + len → q + (skip + 1) ≡ place + p → place + len ≤ min n d + 1 → q ≤ n
          inside p q d h l e k = omega arith

      pub taken_one : TakesOne n t done count b a xs ys
      taken_one =
          record {
            only =
                record {
                  same_length = laid.same_length;
                  kept =
                      λ i out.
                      ⊎_elim (λ l. laid.before i (omega arith)) (λ l. laid.after i (past (start_of t n done b) i reads.inside l)) out;
                };
            added =
                taken_piece xors t done count n (sequence 0 xs n) (sequences 0 xs n) b a skip (skip + len)
                (run_of 0 t done count (sequence 0 xs n) b) (run_of 0 t done count (sequence 0 ys n) b)
                (λ h. first (by_lag.below h))
                (short (lag t b a) (delay t a) begun.begun by_lag)
                (λ p lo hp hl. end p (lag t b a) (delay t a) lo hp hl begun.begun (by_lag.above (omega arith)))
                (λ p lp hs hp. kept p lp hp (laid.before (start_of t n done b + (p - 1)) (ahead (start_of t n done b) p lp hs)))
                (λ p ls hl hp. new p (((done + p) - lag t b a) - delay t a) ls hl hp refl)
                (λ p lo hp. kept p (omega arith) hp (laid.after (start_of t n done b + (p - 1)) (behind (start_of t n done b) p lo)));
          }
        where
          past : (from i : ℕ) → skip + len ≤ count → from + count ≤ i → (from + skip) + len ≤ i
          past from i h l = omega arith

          first : {l : ℕ} → (done + 1) + skip ≤ l + 1 → done + skip ≤ l
          first h = omega arith

          short : (l d : ℕ) → d ≤ done → Reads (done + 1) (l + d) (min n (done - d)) count skip place len → skip + len ≤ l
          short l d h r =
              ⊎_elim (λ none. ⊎_elim (λ z. omega arith) (λ some. skipped l d h none (r.below some)) (le_or_lt skip 0))
              (λ some. last l d h (r.here some) r.up_to) (le_or_lt len 0)
            where
              skipped : (l d : ℕ) → d ≤ done → len ≤ 0 → (done + 1) + skip ≤ (l + d) + 1 → skip + len ≤ l
              skipped l d h none k = omega arith

              last : (l d : ℕ) → d ≤ done → place + (l + d) ≡ (done + 1) + skip → place + len ≤ min n (done - d) + 1 → skip + len ≤ l
              last l d h e k = omega arith

          end :
              (p l d : ℕ) → skip + len < p → p ≤ count → p ≤ l → d ≤ done → min n (done - d) + (l + d) < (done + 1) + (skip + len)
              → n + (l + d) < done + p
          end p l d lo hp hl h k = omega arith

          ahead : (from p : ℕ) → 1 ≤ p → p ≤ skip → from + (p - 1) < from + skip
          ahead from p lp h = omega arith

          behind : (from p : ℕ) → skip + len < p → (from + skip) + len ≤ from + (p - 1)
          behind from p h = omega arith
