-- The turns of a tile, and the way down and up that they go, on runs of a buffer. A turn doesn't know the first rank of its tile, so that its record speaks of every rank
-- `below` its own after which the runs lie apart.
use Rattle.std.specs.Prelude.{List, ℕ, ◌-◌, ◌<◌, length}
use Rattle.letters.specs.Algebra.{xors}
use Rattle.tiles.specs.Even.{lag}
use Rattle.tiles.specs.Turns.{Lowered, Raised}
use Rattle.tiles.specs.Stages.{Up, Down}
use Rattle.one_turn.specs.Tables.{nth, even_shift, RunsApart, runs_in, OnlyRuns}

-- turn j on the way down has come through rank c
pub record TurnDown (exps starts : List ℕ) (hi m j c : ℕ) (before after : List ℕ) : Type 0 where
  pub only : OnlyRuns starts (j - 1) hi m before after
  pub lowered :
      (below : ℕ) → below < j → RunsApart starts below hi m (length before)
      → Lowered xors below hi m (lag (even_shift exps)) (nth exps) j c (runs_in starts m before) (runs_in starts m after)

-- turn j on the way up has come to rank c
pub record TurnUp (exps starts : List ℕ) (hi m j c : ℕ) (before after : List ℕ) : Type 0 where
  pub only : OnlyRuns starts (j - 1) hi m before after
  pub raised :
      (below : ℕ) → below < j → RunsApart starts below hi m (length before)
      → Raised xors below hi m (nth exps) j c (runs_in starts m before) (runs_in starts m after)

-- k turns down were made
pub record WayDown (exps starts : List ℕ) (below hi m k : ℕ) (before after : List ℕ) : Type 0 where
  pub only : OnlyRuns starts below hi m before after
  pub down : Down xors below hi m (lag (even_shift exps)) (nth exps) (runs_in starts m before) k (runs_in starts m after)

-- k turns up are left to be made
pub record WayUp (exps starts : List ℕ) (below hi m k : ℕ) (before after : List ℕ) : Type 0 where
  pub only : OnlyRuns starts below hi m before after
  pub up :
      (g : ℕ → ℕ → ℕ) → Up xors below hi m (lag (even_shift exps)) (nth exps) g (hi - below) (runs_in starts m before)
      → Up xors below hi m (lag (even_shift exps)) (nth exps) g k (runs_in starts m after)
