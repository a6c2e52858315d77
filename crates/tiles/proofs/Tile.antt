-- From tile to tile: an equation of the tile reads letters from before it, which were taken out of its run, and letters of the tile, of which what is left is the sum. So it holds, and no earlier equation reads a letter that changed.
use mathlib.Core.Path.{◌≡◌, refl, sym, ap, ap₂, ◌∙◌}
use mathlib.Core.Logic.{⊎_elim}
use Prim.Native.Nat.{ℕ, ◌+◌, ◌-◌, ◌≤◌, ◌<◌}
use native.Mathlib.Omega.{arith}
use Rattle.letters.specs.Algebra.{Adding, Letters, sum}
use Rattle.letters.proofs.Cases.{le_or_lt}
use Rattle.letters.proofs.Sums.{sum_same, none_plus, plus_twice}
use Rattle.system.specs.System.{part, Sequences}
use Rattle.system.specs.Order.{delay, Ordered}
use Rattle.system.proofs.Order.{delay_rises}
use Rattle.system.proofs.System.{part_same}
use Rattle.tiles.specs.Even.{lag}
use Rattle.tiles.specs.Stages.{span, Solves}
use Rattle.tiles.specs.Tile.{Through, Tile, WithinTile, TakenOut, run_of, read_before}
use Rattle.tiles.proofs.Even.{place_by_lag}
use Rattle.tiles.proofs.Runs.{run_inside, run_zero, before_early, before_late, agree_at}
use Rattle.tiles.proofs.Spans.{span_same, span_plus, span_none, span_rest}

-- the round of a letter of a tile, counted from the tile's first
in_tile : (d p done : ℕ) → done < d + p → d + p ≡ done + ((d + p) - done)
in_tile d p done h = omega arith

module _ {A : Type 0} (𝓛 : Letters A) (s n : ℕ) (t : ℕ → ℕ → ℕ) (ordered : Ordered s t) (done m below hi : ℕ) (tile : Tile s n t done m below hi)
    (x x' : ℕ → ℕ → A) (xs : Sequences 𝓛.adding.none n x) (xs' : Sequences 𝓛.adding.none n x')
    (within : WithinTile s n t done m below hi x x') where
  -- a letter that comes out before the tile is as it was, and so is each of which there is none
  kept_early : (a q : ℕ) → 1 ≤ a → a ≤ s → (1 ≤ q → delay t a + q ≤ done) → x' a q ≡ x a q
  kept_early a q la ha early =
      agree_at 𝓛.adding.none n x x' xs xs' a q (λ lo up. within a q la ha lo up (λ l h after upto. omega (arith, early lo)))

  -- an equation that comes out before the tile reads only such
  kept_read : (b p a : ℕ) → 1 ≤ b → b ≤ s → 1 ≤ a → a ≤ s → delay t b + p ≤ done → x' a ((p + t b b) - t b a) ≡ x a ((p + t b b) - t b a)
  kept_read b p a lb hb la ha early =
      kept_early a ((p + t b b) - t b a) la ha
      (λ lo. read (delay t b + p) (lag t b a) (delay t a) ((p + t b b) - t b a) done (place_by_lag s t ordered b a p lb hb la ha) lo early)
    where
      read : (r l d q done : ℕ) → q ≡ (r - l) - d → 1 ≤ q → r ≤ done → d + q ≤ done
      read r l d q done e lo h = omega arith

  -- equation b at place p of its run
  module _ (b p : ℕ) (lb : below < b) (hb : b ≤ hi) (lp : 1 ≤ p) (hp : p ≤ m) where
    -- what it reads of sequence a
    abbrev reads : ℕ → A
    reads a = x' a (((done + p) - lag t b a) - delay t a)

    abbrev early : ℕ → A
    early a = read_before 𝓛.adding.none t done x b p a

    abbrev inner : ℕ → A
    inner a = run_of 𝓛.adding.none t done m x' a (p - lag t b a)

    -- up to the lag: a letter from before the tile
    reads_early : (a : ℕ) → 1 ≤ a → a ≤ s → p ≤ lag t b a → reads a ≡ early a
    reads_early a la ha h =
        kept_early a (((done + p) - lag t b a) - delay t a) la ha (λ lo. not_after done p (lag t b a) (delay t a) h lo)
        ∙ sym (before_early 𝓛.adding.none t done x b p a h)
      where
        not_after : (done p l d : ℕ) → p ≤ l → 1 ≤ ((done + p) - l) - d → d + (((done + p) - l) - d) ≤ done
        not_after done p l d h lo = omega arith

    -- a rank that is over: a letter from before the tile, or none
    reads_lower : (a : ℕ) → 1 ≤ a → a ≤ below → reads a ≡ early a
    reads_lower a la ha =
        let few = tile.few in
        let ranks = tile.ranks in
        ⊎_elim (reads_early a la (omega arith))
        (λ h.
        xs'.nothing_above a (((done + p) - lag t b a) - delay t a) (past n done p (lag t b a) (delay t a) h (tile.over a la ha))
        ∙ sym (before_late 𝓛.adding.none t done x b p a h))
        (le_or_lt p (lag t b a))
      where
        past : (n done p l d : ℕ) → l < p → n + d ≤ done → n < ((done + p) - l) - d
        past n done p l d h over = omega arith

    -- a rank of the tile: a letter from before it, or one of the tile
    reads_inner : (a : ℕ) → below < a → a ≤ hi → reads a ≡ 𝓛.adding.plus (early a) (inner a)
    reads_inner a la ha =
        let few = tile.few in
        ⊎_elim
        (λ h.
        reads_early a (omega arith) (omega arith) h
        ∙ sym (ap (𝓛.adding.plus (early a)) (run_zero 𝓛.adding.none t done m x' a (p - lag t b a) (none_yet p (lag t b a) h))
        ∙ 𝓛.adding.plus_none (early a)))
        (λ h.
        ap (x' a) (since done p (lag t b a) (delay t a) h (tile.begun a la ha))
        ∙ sym (ap₂ 𝓛.adding.plus (before_late 𝓛.adding.none t done x b p a h)
        (run_inside 𝓛.adding.none t done m x' a (p - lag t b a) (omega arith) (omega arith))
        ∙ none_plus 𝓛.adding (x' a ((done - delay t a) + (p - lag t b a)))))
        (le_or_lt p (lag t b a))
      where
        none_yet : (p l : ℕ) → p ≤ l → p - l ≡ 0
        none_yet p l h = omega arith

        since : (done p l d : ℕ) → l < p → d ≤ done → ((done + p) - l) - d ≡ (done - d) + (p - l)
        since done p l d h begun = omega arith

    -- a rank that is to come: none
    reads_upper : (a : ℕ) → hi < a → a ≤ s → reads a ≡ 𝓛.adding.none
    reads_upper a la ha = ap (x' a) (not_yet done p m (lag t b a) (delay t a) hp (tile.to-come a la ha)) ∙ xs'.nothing_below a
      where
        not_yet : (done p m l d : ℕ) → p ≤ m → done + m ≤ d → ((done + p) - l) - d ≡ 0
        not_yet done p m l d h late = omega arith

    -- so all that it reads is what was taken out, and what it reads in the tile
    reads_all : sum 𝓛.adding s reads ≡ 𝓛.adding.plus (sum 𝓛.adding hi early) (span 𝓛.adding below hi inner)
    reads_all =
        span_rest 𝓛.adding hi s reads tile.few
        ∙ ap (𝓛.adding.plus (sum 𝓛.adding hi reads)) (span_none 𝓛.adding hi s reads reads_upper)
        ∙ 𝓛.adding.plus_none (sum 𝓛.adding hi reads)
        ∙ span_rest 𝓛.adding below hi reads tile.ranks
        ∙ ap₂ 𝓛.adding.plus (sum_same 𝓛.adding below reads early reads_lower)
        (span_same 𝓛.adding below hi reads (λ a. 𝓛.adding.plus (early a) (inner a)) reads_inner
        ∙ span_plus 𝓛.adding below hi early inner)
        ∙ sym (𝓛.adding.assoc (sum 𝓛.adding below early) (span 𝓛.adding below hi early) (span 𝓛.adding below hi inner))
        ∙ ap (λ v. 𝓛.adding.plus v (span 𝓛.adding below hi inner)) (sym (span_rest 𝓛.adding below hi early tile.ranks))

    -- and that is what its letter was
    holds :
        (g : ℕ → ℕ → A) → TakenOut 𝓛.adding t done m below hi x hi g
        → Solves 𝓛.adding below hi m (lag t) g (run_of 𝓛.adding.none t done m x')
        → sum 𝓛.adding s reads ≡ run_of 𝓛.adding.none t done m x b p
    holds g taken solves =
        reads_all
        ∙ ap (𝓛.adding.plus (sum 𝓛.adding hi early)) (sym (solves b p lb hb lp hp) ∙ taken.taken b lb hb p lp hp)
        ∙ 𝓛.adding.comm (sum 𝓛.adding hi early)
        (𝓛.adding.plus (run_of 𝓛.adding.none t done m x b p) (sum 𝓛.adding hi early))
        ∙ plus_twice 𝓛 (run_of 𝓛.adding.none t done m x b p) (sum 𝓛.adding hi early)

  -- by places of its sequence
  part_holds :
      (g : ℕ → ℕ → A) → TakenOut 𝓛.adding t done m below hi x hi g
      → Solves 𝓛.adding below hi m (lag t) g (run_of 𝓛.adding.none t done m x')
      → (b p : ℕ) → 1 ≤ b → b ≤ s → below < b → b ≤ hi → done < delay t b + p → delay t b + p ≤ done + m
      → part 𝓛.adding s t x' b p ≡ x b p
  unfolding part
  part_holds g taken solves b p lb hb low high after upto =
      sum_same 𝓛.adding s (λ a. x' a ((p + t b b) - t b a)) (λ a. reads b ((delay t b + p) - done) low high (omega arith) (omega arith) a)
      (λ a la ha.
      ap (x' a)
      (place_by_lag s t ordered b a p lb hb la ha
      ∙ ap (λ r. (r - lag t b a) - delay t a) (in_tile (delay t b) p done after)))
      ∙ holds b ((delay t b + p) - done) low high (omega arith) (omega arith) g taken solves
      ∙ run_inside 𝓛.adding.none t done m x b ((delay t b + p) - done) (omega arith) (omega arith)
      ∙ ap (x b) (own (delay t b) p done (tile.begun b low high) after)
    where
      own : (d p done : ℕ) → d ≤ done → done < d + p → (done - d) + ((d + p) - done) ≡ p
      own d p done begun after = omega arith

  -- The tile is done.
  pub through_tile :
      (y g : ℕ → ℕ → A) → TakenOut 𝓛.adding t done m below hi x hi g
      → Solves 𝓛.adding below hi m (lag t) g (run_of 𝓛.adding.none t done m x')
      → Through 𝓛.adding s n t y x done → Through 𝓛.adding s n t y x' (done + m)
  through_tile y g taken solves through =
      record {
        solved =
            λ b p lb hb lp hp upto.
            ⊎_elim
            (λ early.
            part_same 𝓛.adding s t t x' x b p (λ a la ha. kept_read b p a lb hb la ha early) ∙ through.solved b p lb hb lp hp early)
            (λ after.
            part_holds g taken solves b p lb hb (not_over b p lb hp after) (not_to_come b p hb lp upto) after upto
            ∙ through.rest b p lb hb lp hp after)
            (le_or_lt (delay t b + p) done);
        rest =
            λ b p lb hb lp hp after.
            within b p lb hb lp hp (λ l h later upto. omega arith) ∙ through.rest b p lb hb lp hp (omega arith);
      }
    where
      not_over : (b p : ℕ) → 1 ≤ b → p ≤ n → done < delay t b + p → below < b
      not_over b p lb hp after =
          ⊎_elim (λ h. absurd (omega (arith, tile.over b lb h))) (λ l. l) (le_or_lt b below)

      not_to_come : (b p : ℕ) → b ≤ s → 1 ≤ p → delay t b + p ≤ done + m → b ≤ hi
      not_to_come b p hb lp upto =
          ⊎_elim (λ l. l) (λ h. absurd (omega (arith, tile.to-come b h hb))) (le_or_lt b hi)

module _ {A : Type 0} (𝓐 : Adding A) (s n : ℕ) (t : ℕ → ℕ → ℕ) (y : ℕ → ℕ → A) where
  -- before the first round every letter is as it came
  pub through_start : Through 𝓐 s n t y y 0
  through_start =
      record { solved = λ b p lb hb lp hp h. absurd (omega arith); rest = λ b p lb hb lp hp h. refl }

  -- after the last round every equation holds
  pub through_end :
      (x : ℕ → ℕ → A) (done : ℕ) → n + delay t s ≤ done → Through 𝓐 s n t y x done
      → (b p : ℕ) → 1 ≤ b → b ≤ s → 1 ≤ p → p ≤ n → part 𝓐 s t x b p ≡ y b p
  through_end x done last through b p lb hb lp hp =
      through.solved b p lb hb lp hp (omega (arith, delay_rises t b s lb hb))

-- The ranks at the ends tell of all others, since delays never fall.
pub tile_by_ends :
    (s n : ℕ) (t : ℕ → ℕ → ℕ) (done m below hi : ℕ) → below ≤ hi → hi ≤ s → (1 ≤ below → n + delay t below ≤ done) → (1 ≤ hi → delay t hi ≤ done)
    → (below < hi → done + m ≤ n + delay t (below + 1)) → (hi < s → done + m ≤ delay t (hi + 1)) → Tile s n t done m below hi
tile_by_ends s n t done m below hi ranks few over begun not_over to-come =
    record {
      ranks = ranks;
      few = few;
      over = λ a la ha. omega (arith, over (omega arith), delay_rises t a below la ha);
      begun = λ b lb hb. omega (arith, begun (omega arith), delay_rises t b hi (omega arith) hb);
      not_over = λ b lb hb. omega (arith, not_over (omega arith), delay_rises t (below + 1) b (omega arith) (omega arith));
      to-come = λ a la ha. omega (arith, to-come (omega arith), delay_rises t (hi + 1) a (omega arith) (omega arith));
    }

-- one change in a tile after another
pub within_then :
    {A : Type 0} (s n : ℕ) (t : ℕ → ℕ → ℕ) (done m below hi : ℕ) (x y z : ℕ → ℕ → A) → WithinTile s n t done m below hi x y
    → WithinTile s n t done m below hi y z → WithinTile s n t done m below hi x z
within_then s n t done m below hi x y z first second a q la ha lq hq out = second a q la ha lq hq out ∙ first a q la ha lq hq out
