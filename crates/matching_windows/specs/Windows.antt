-- The sum of runs that are each moved right, as a window sees it.
use Rattle.std.specs.Prelude.{List, ℕ, ◌+◌}
use Rattle.letters.specs.Algebra.{xors}
use Rattle.sums.specs.Sums.{run_start}
use Rattle.sequences.specs.Moved.{moved}
use Rattle.sequences.specs.Steps.MovedRuns.{run_letter}

-- the letter at index q of a window that leaves out the first `skip` places of the sum
unfoldable pub seen_letter : List ℕ → List ℕ → List ℕ → ℕ → ℕ → ℕ → ℕ → ℕ
unfolding moved run_letter
seen_letter from starts leads n size skip q = moved xors n (run_start leads) (run_letter from starts size) (q + 1 + skip)
