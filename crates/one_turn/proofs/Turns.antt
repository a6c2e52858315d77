-- Steps of a turn and turns of a way, as two loops make them: each is the step of the theory of tiles, on runs that lie apart in a buffer.
use mathlib.Core.Path.{◌≡◌, refl}
use mathlib.Core.List.{List}
use mathlib.Core.Logic.{⊎_elim}
use Prim.Native.Nat.{ℕ, ◌+◌, ◌-◌, ◌≤◌, ◌<◌}
use native.Mathlib.Omega.{arith}
use lib.ListN.{length}
use Rattle.letters.specs.Algebra.{xors, bytes}
use Rattle.letters.proofs.Cases.{le_or_lt}
use Rattle.system.specs.Order.{Ordered}
use Rattle.tiles.specs.Even.{lag}
use Rattle.tiles.specs.Stages.{Solves, Down}
use Rattle.tiles.proofs.Even.{even_lags}
use Rattle.tiles.proofs.Stages.{down_start, down_turn, up_turn, up_end}
use Rattle.tiles.proofs.Steps.{lowered_start, lowered_more, raised_start, raised_more}
use Rattle.one_run.specs.Steps.Runs.{RunAdded, RunSummed}
use Rattle.one_turn.specs.Tables.{nth, even_shift, RunsApart, runs_in}
use Rattle.one_turn.specs.Steps.Turns.{TurnDown, TurnUp, WayDown, WayUp}
use Rattle.one_turn.proofs.Tables.{exponents_even}
use Rattle.one_turn.proofs.Runs.{runs_nothing, only_start, only_more, only_run, only_rank}

module _ (exps starts : List ℕ) (hi m : ℕ) where
  -- a turn begins at its own rank
  pub turn_down_start : (j : ℕ) (xs : List ℕ) → TurnDown exps starts hi m j j xs xs
  turn_down_start j xs =
      record {
        only = only_start starts hi m (j - 1) xs;
        lowered =
            λ below h apart.
            lowered_start xors below hi m (nth exps) (lag (even_shift exps)) j (runs_in starts m xs) (runs_nothing starts m xs);
      }

  pub turn_up_start : (j : ℕ) (xs : List ℕ) → TurnUp exps starts hi m j j xs xs
  turn_up_start j xs =
      record {
        only = only_start starts hi m (j - 1) xs;
        raised = λ below h apart. raised_start xors below hi m (nth exps) j (runs_in starts m xs) (runs_nothing starts m xs);
      }

  module _ (j c d : ℕ) (lj : 1 ≤ j) (lc : j ≤ c) (next : d ≡ c + 1) (hd : d ≤ hi) where
    -- on the way down run j, moved right by its lag, is added to the run of the next rank, which is then summed up
    pub turn_down_more :
        (xs ys zs us : List ℕ) → TurnDown exps starts hi m j c xs ys
        → RunAdded (nth starts d) (nth starts j) m (lag (even_shift exps) d j) ys zs → RunSummed (nth starts d) m (nth exps j - nth exps d) zs us
        → TurnDown exps starts hi m j d xs us
    turn_down_more xs ys zs us w added summed =
        record {
          only =
              only_more starts hi m (j - 1) (j - 1) xs zs us (omega arith)
              (only_more starts hi m (j - 1) (j - 1) xs ys zs (omega arith) w.only
              (only_run starts hi m (j - 1) d ys zs (omega arith) hd added.only))
              (only_run starts hi m (j - 1) d zs us (omega arith) hd summed.only);
          lowered =
              λ below h apart.
              lowered_more xors below hi m (nth exps) (lag (even_shift exps)) j c d h lc next hd (runs_in starts m xs) (runs_in starts m ys)
              (runs_in starts m zs) (runs_in starts m us) (w.lowered below h apart)
              (only_rank starts hi m below d (length xs) ys zs apart (omega arith) hd added.only) added.added
              (only_rank starts hi m below d (length xs) zs us apart (omega arith) hd summed.only) summed.summed
              (runs_nothing starts m us);
        }

    -- on the way up the run of the next rank is added to the one before it
    pub turn_up_more :
        (xs ys zs : List ℕ) → TurnUp exps starts hi m j c xs ys
        → RunAdded (nth starts c) (nth starts d) m (nth exps j - nth exps d) ys zs → TurnUp exps starts hi m j d xs zs
    turn_up_more xs ys zs w added =
        record {
          only =
              only_more starts hi m (j - 1) (j - 1) xs ys zs (omega arith) w.only
              (only_run starts hi m (j - 1) c ys zs (omega arith) (omega arith) added.only);
          raised =
              λ below h apart.
              raised_more xors below hi m (nth exps) j c d h lc next hd (runs_in starts m xs) (runs_in starts m ys) (runs_in starts m zs)
              (w.raised below h apart)
              (only_rank starts hi m below c (length xs) ys zs apart (omega arith) (omega arith) added.only) added.added
              (runs_nothing starts m zs);
        }

module _ (exps starts : List ℕ) (below hi m : ℕ) where
  -- no turn down yet
  pub way_down_start : (k : ℕ) (xs : List ℕ) → k ≡ 0 → WayDown exps starts below hi m k xs xs
  way_down_start k xs none =
      record {
        only = only_start starts hi m below xs;
        down = rw none (down_start bytes below hi m (lag (even_shift exps)) (nth exps) (runs_in starts m xs));
      }

  -- one turn down more
  pub way_down_more :
      Ordered hi (even_shift exps) → (i j : ℕ) (xs ys zs : List ℕ) → j ≡ i + 1 → below ≤ i → j ≤ hi → RunsApart starts below hi m (length ys)
      → WayDown exps starts below hi m (i - below) xs ys → TurnDown exps starts hi m j hi ys zs
      → WayDown exps starts below hi m (j - below) xs zs
  way_down_more ordered i j xs ys zs next li hj apart w turn =
      record {
        only = only_more starts hi m below (j - 1) xs ys zs (omega arith) w.only turn.only;
        down =
            down_turn bytes below hi m (lag (even_shift exps)) (nth exps) (runs_in starts m xs)
            (even_lags hi (even_shift exps) (nth exps) (exponents_even hi exps) ordered below hi (omega arith)) (i - below) (j - below) j
            (omega arith) (omega arith) hj (runs_in starts m ys) (runs_in starts m zs) w.down (turn.lowered below (omega arith) apart);
      }

  -- all turns down: that of the last rank, where it is left, changes nothing
  pub way_down_end :
      Ordered hi (even_shift exps) → (j : ℕ) (xs ys : List ℕ) → below ≤ j → j ≤ hi → hi ≤ j + 1 → RunsApart starts below hi m (length ys)
      → WayDown exps starts below hi m (j - below) xs ys → WayDown exps starts below hi m (hi - below) xs ys
  way_down_end ordered j xs ys lj hj last apart w =
      ⊎_elim (λ none. rw (same_stage none) at w)
      (λ left. way_down_more ordered j hi xs ys ys (omega arith) lj (omega arith) apart w (turn_down_start exps starts hi m hi ys))
      (le_or_lt hi j)
    where
      same_stage : hi ≤ j → j - below ≡ hi - below
      same_stage none = omega arith

  -- one turn up more
  pub way_up_more :
      (j : ℕ) (xs ys zs : List ℕ) → below < j → RunsApart starts below hi m (length ys) → WayUp exps starts below hi m (j - below) xs ys
      → TurnUp exps starts hi m j hi ys zs → WayUp exps starts below hi m ((j - 1) - below) xs zs
  way_up_more j xs ys zs lj apart w turn =
      record {
        only = only_more starts hi m below (j - 1) xs ys zs (omega arith) w.only turn.only;
        up =
            λ g start.
            up_turn bytes below hi m (lag (even_shift exps)) (nth exps) g ((j - 1) - below) (j - below) j (omega arith) (omega arith)
            (runs_in starts m ys) (runs_in starts m zs) (w.up g start) (turn.raised below lj apart);
      }

  -- the turn of the last rank, if there is a rank, is made already, since it changes nothing
  pub way_up_start :
      (xs : List ℕ) → RunsApart starts below hi m (length xs) → WayUp exps starts below hi m ((hi - 1) - below) xs xs
  way_up_start xs apart =
      ⊎_elim (λ none. rw (same_stage none) start)
      (λ some. way_up_more hi xs xs xs some apart start (turn_up_start exps starts hi m hi xs)) (le_or_lt hi below)
    where
      start : WayUp exps starts below hi m (hi - below) xs xs
      start = record { only = only_start starts hi m below xs; up = λ g w. w }

      same_stage : hi ≤ below → (hi - 1) - below ≡ hi - below
      same_stage none = omega arith

  -- After all turns down no rank is left, and any runs solve what is asked of none: so the way up from there leads to a solution.
  pub way_solves :
      (xs ys zs : List ℕ) → below ≤ hi → WayDown exps starts below hi m (hi - below) xs ys → WayUp exps starts below hi m 0 ys zs
      → Solves xors below hi m (lag (even_shift exps)) (runs_in starts m xs) (runs_in starts m zs)
  unfolding Down
  way_solves xs ys zs h w v =
      up_end bytes below hi m (lag (even_shift exps)) (nth exps) (runs_in starts m xs) (runs_in starts m zs)
      (v.up (runs_in starts m xs)
      (w.down (runs_in starts m ys) (runs_nothing starts m ys) (λ b p lb hb lp hp. absurd (omega arith)) (λ a la ha p lp hp. refl)))
