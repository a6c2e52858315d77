-- Laws of runs that lie apart in a buffer: a change of one run is none of another.
use mathlib.Core.Path.{◌≡◌, refl, ◌∙◌}
use mathlib.Core.List.{List}
use mathlib.Core.Logic.{⊎_elim}
use Prim.Native.Nat.{ℕ, ◌+◌, ◌≤◌, ◌<◌}
use native.Mathlib.Omega.{arith}
use Rattle.letters.specs.Algebra.{xors}
use Rattle.letters.proofs.Cases.{le_or_lt}
use Rattle.letters.proofs.Places.{letter_zero, letter_same}
use Rattle.tiles.specs.Turns.{Nothing, Only}
use Rattle.one_run.specs.Steps.Runs.{OnlyRun}
use Rattle.one_turn.specs.Tables.{nth, RunsApart, runs_in, OnlyRuns}

-- runs have no letter at place 0
pub runs_nothing : (starts : List ℕ) (m : ℕ) (xs : List ℕ) → Nothing xors (runs_in starts m xs)
runs_nothing starts m xs a = letter_zero 0 xs (nth starts a) m 0 refl

module _ (starts : List ℕ) (hi m : ℕ) where
  -- the runs of fewer ranks, in a buffer as long
  pub apart_later :
      (below later long same : ℕ) → below ≤ later → same ≡ long → RunsApart starts below hi m long → RunsApart starts later hi m same
  apart_later below later long same h e w =
      record {
        size = w.size;
        few = w.few;
        order = λ a b la l hb. w.order a b (omega arith) l hb;
        fits = λ b lb hb. omega (arith, w.fits b (omega arith) hb);
      }

  -- no letter changed
  pub only_start : (below : ℕ) (xs : List ℕ) → OnlyRuns starts below hi m xs xs
  only_start below xs = record { same_length = refl; kept = λ i out. refl }

  -- and then letters of the runs of some of these ranks
  pub only_more :
      (below later : ℕ) (xs ys zs : List ℕ) → below ≤ later → OnlyRuns starts below hi m xs ys → OnlyRuns starts later hi m ys zs
      → OnlyRuns starts below hi m xs zs
  only_more below later xs ys zs h w v =
      record {
        same_length = v.same_length ∙ w.same_length;
        kept = λ i out. v.kept i (λ b lb hb. out b (omega arith) hb) ∙ w.kept i out;
      }

  -- of one run of them
  pub only_run :
      (below b : ℕ) (xs ys : List ℕ) → below < b → b ≤ hi → OnlyRun (nth starts b) m xs ys → OnlyRuns starts below hi m xs ys
  only_run below b xs ys lb hb w = record { same_length = w.same_length; kept = λ i out. w.kept i (out b lb hb) }

  -- the letters of the others are what they were
  pub only_rank :
      (below b long : ℕ) (xs ys : List ℕ) → RunsApart starts below hi m long → below < b → b ≤ hi → OnlyRun (nth starts b) m xs ys
      → Only below hi m b (runs_in starts m xs) (runs_in starts m ys)
  only_rank below b long xs ys apart lb hb w a la ha other p lp hp =
      letter_same 0 ys xs (nth starts a) (nth starts a) m p
      (λ q h.
      w.kept (nth starts a + q)
      (λ lo up.
      ⊎_elim (λ l. ⊎_elim (λ k. other (omega arith)) (λ k. omega (arith, apart.order a b la k hb)) (le_or_lt b a))
      (λ l. omega (arith, apart.order b a lb l ha)) (le_or_lt a b)))
