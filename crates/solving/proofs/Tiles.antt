-- One tile of a buffer of sequences: its runs lie in their sequences, what solves them by themselves solves the tile, and no other letter changes.
use native.Mathlib.Omega.{arith}
use lib.ListN.{get_or}
use mathlib.Core.Path.{◌≡◌, sym, ap, ap₂, ◌∙◌}
use mathlib.Core.List.{List}
use mathlib.Core.Logic.{⊎_elim}
use Prim.Native.Nat.{ℕ, ◌+◌, ◌-◌, ◌*◌, ◌≤◌, ◌<◌}
use Rattle.letters.specs.Algebra.{xors, bytes}
use Rattle.letters.specs.Places.{letter}
use Rattle.system.specs.System.{sequence}
use Rattle.system.specs.Order.{delay}
use Rattle.system.proofs.Order.{ordered_same, delay_same}
use Rattle.system.proofs.System.{index_of, sequence_inside, sequences}
use Rattle.equation.specs.Rows.{shift_in, Rows, Solvable}
use Rattle.equation.specs.Delays.{Delays}
use Rattle.equation.proofs.Delays.{delay_small}
use Rattle.earlier.specs.Taken.{TakesOut}
use Rattle.tiles.specs.Even.{lag}
use Rattle.tiles.specs.Stages.{Solves}
use Rattle.tiles.specs.Tile.{Tile, run_of, start_of, WithinTile}
use Rattle.tiles.proofs.Spans.{span_same}
use Rattle.tiles.proofs.Runs.{run_letter_lem}
use Rattle.tiles.proofs.Buffers.{outside}
use Rattle.tiles.proofs.Tile.{through_tile, within_then, tile_by_ends}
use Rattle.one_turn.specs.Tables.{nth, even_shift, runs_in, OnlyRuns}
use Rattle.one_turn.proofs.Tables.{nth_next}
use Rattle.rounds.specs.Steps.Rounds.{Exponents, Waits, RunStarts, Begun, Ended, Cut}
use Rattle.solving.specs.Steps.Tiles.{TablesOf, Onward}

-- both tables give the same lags
module _ (s : ℕ) (rows exps delays : List ℕ) (tables : TablesOf s rows exps delays) where
  same_delay : (b : ℕ) → 1 ≤ b → b ≤ s → delay (even_shift exps) b ≡ delay (shift_in rows) b
  same_delay b lo hi = sym (tables.tables.delayed b lo hi) ∙ tables.waits.each b lo hi

  pub same_lag : (b a : ℕ) → 1 ≤ b → b ≤ s → 1 ≤ a → a ≤ s → lag (even_shift exps) b a ≡ lag (shift_in rows) b a
  unfolding lag
  same_lag b a lb hb la ha =
      ap₂ ◌-◌ (ap₂ ◌+◌ (sym (tables.same b a lb hb la ha)) (same_delay b lb hb)) (ap₂ ◌+◌ (sym (tables.same b b lb hb lb hb)) (same_delay a la ha))

module _ (s n : ℕ) (rows exps delays starts : List ℕ) (tables : TablesOf s rows exps delays) (done m below hi : ℕ) (tile : Tile s n (shift_in rows) done m below hi)
    (runs : RunStarts n delays below hi done starts) where
  -- where the run of rank b starts, and that it lies in its sequence
  start_here : (b : ℕ) → below < b → b ≤ hi → nth starts b ≡ start_of (shift_in rows) n done b
  start_here b lb hb = runs.each b lb hb ∙ ap (λ d. (b - 1) * n + (done - d)) (tables.waits.each b (omega arith) (omega (arith, tile.few)))

  run_fits : (b : ℕ) → below < b → b ≤ hi → (done - delay (shift_in rows) b) + m ≤ n
  run_fits b lb hb = fits (delay (shift_in rows) b) (tile.begun b lb hb) (tile.not_over b lb hb)
    where
      fits : (d : ℕ) → d ≤ done → done + m ≤ n + d → (done - d) + m ≤ n
      fits d h l = omega arith

  -- the run of rank b as the turns see it
  run_here : (xs : List ℕ) (b p : ℕ) → below < b → b ≤ hi → run_of 0 (shift_in rows) done m (sequence 0 xs n) b p ≡ runs_in starts m xs b p
  run_here xs b p lb hb =
      run_letter_lem 0 xs n (shift_in rows) done m b p (run_fits b lb hb) ∙ ap (λ i. letter 0 xs i m p) (sym (start_here b lb hb))

  solves_here :
      (mid after : List ℕ) → Solves xors below hi m (lag (even_shift exps)) (runs_in starts m mid) (runs_in starts m after)
      → Solves xors below hi m (lag (shift_in rows)) (run_of 0 (shift_in rows) done m (sequence 0 mid n)) (run_of 0 (shift_in rows) done m (sequence 0 after n))
  solves_here mid after solves b p lb hb lp hp =
      run_here mid b p lb hb
      ∙ solves b p lb hb lp hp
      ∙ span_same xors below hi (λ a. runs_in starts m after a (p - lag (even_shift exps) b a))
      (λ a. run_of 0 (shift_in rows) done m (sequence 0 after n) a (p - lag (shift_in rows) b a))
      (λ a la ha.
      ap (λ d. runs_in starts m after a (p - d))
      (same_lag s rows exps delays tables b a (omega arith) (omega (arith, tile.few)) (omega arith) (omega (arith, tile.few)))
      ∙ sym (run_here after a (p - lag (shift_in rows) b a) la ha))

  within_here : (mid after : List ℕ) → OnlyRuns starts below hi m mid after → WithinTile s n (shift_in rows) done m below hi (sequence 0 mid n) (sequence 0 after n)
  within_here mid after only a q la ha lq hq out =
      sequence_inside 0 after n a q lq hq
      ∙ only.kept (index_of n a q)
      (λ b lb hb from to.
      ⊎_elim (λ early. omega (arith, start_here b lb hb)) (λ late. omega (arith, start_here b lb hb))
      (outside s n (shift_in rows) done m below hi tile b lb hb a q la lq hq (λ e h l. out (omega arith) (omega arith) h l)))
      ∙ sym (sequence_inside 0 mid n a q lq hq)

  pub tile_done :
      Solvable s n rows → (before mid after : List ℕ) → TakesOut s n (shift_in rows) done m below hi before hi mid
      → Solves xors below hi m (lag (even_shift exps)) (runs_in starts m mid) (runs_in starts m after) → OnlyRuns starts below hi m mid after
      → Onward s n rows before after done (done + m)
  tile_done solvable before mid after taken solves only =
      record {
        same_length = only.same_length ∙ taken.same_length;
        goes_on =
            λ y.
            through_tile bytes s n (shift_in rows) solvable.ordered done m below hi tile (sequence 0 before n) (sequence 0 after n) (sequences 0 before n) (sequences 0 after n)
            (within_then s n (shift_in rows) done m below hi (sequence 0 before n) (sequence 0 mid n) (sequence 0 after n) taken.within (within_here mid after only)) y
            (run_of 0 (shift_in rows) done m (sequence 0 mid n)) taken.taken (solves_here mid after solves);
      }

-- delays are small
pub waits_small : (s : ℕ) (rows delays : List ℕ) → Rows s rows → Delays s rows delays → (i : ℕ) → i < s → get_or delays i 0 ≤ 65535 * 16
waits_small s rows delays r waits i h = omega (arith, nth_next delays i, waits.each (i + 1) (omega arith) (omega arith), delay_small s rows r (i + 1) (omega arith), r.few-nodes)

-- the tile that is cut is one
pub tile_here :
    (s n : ℕ) (rows exps delays : List ℕ) (below hi done end : ℕ) → TablesOf s rows exps delays → Begun s delays s done hi → Ended n hi delays hi done below
    → Cut s n delays below hi done end → Tile s n (shift_in rows) done (end - done) below hi
tile_here s n rows exps delays below hi done end tables begun ended cut =
    tile_by_ends s n (shift_in rows) done (end - done) below hi ended.within begun.within
    (λ h. omega (arith, ended.ended h, wait below h (omega (arith, ended.within, begun.within))))
    (λ h. omega (arith, begun.begun h, wait hi h begun.within))
    (λ h. omega (arith, cut.onward, cut.lasting, wait (below + 1) (omega arith) (omega (arith, begun.within))))
    (λ h. omega (arith, cut.onward, cut.before_next h, wait (hi + 1) (omega arith) (omega arith)))
  where
    wait : (b : ℕ) → 1 ≤ b → b ≤ s → nth delays b ≡ delay (shift_in rows) b
    wait b lo hi = tables.waits.each b lo hi

-- the tables that are made of the rows are theirs
pub tables_of :
    (s n : ℕ) (rows exps delays : List ℕ) → Solvable s n rows → Exponents s rows exps → Waits s exps delays → TablesOf s rows exps delays
tables_of s n rows exps delays solvable made waits =
    record {
      tables =
          record {
            few = solvable.shifts.few-nodes;
            exponents = made.size;
            waits = waits.size;
            ordered = ordered_same (shift_in rows) (even_shift exps) s same solvable.ordered;
            delayed = waits.each;
          };
      waits = record { sixteen = waits.size; each = λ b lo hi. waits.each b lo hi ∙ sym (delay_same (shift_in rows) (even_shift exps) s b hi same) };
      same = same;
    }
  where
    same : (b a : ℕ) → 1 ≤ b → b ≤ s → 1 ≤ a → a ≤ s → shift_in rows b a ≡ even_shift exps b a
    same b a lb hb la ha = solvable.even.products b a lb hb la ha ∙ ap (λ e. e * (a - 1)) (sym (made.each b lb hb))
