-- Runs of one buffer that are each moved right, and the window through which their sum is seen.
use Rattle.std.specs.Prelude.{◌≡◌, List, ℕ, ◌+◌, ◌-◌, ◌^◌, ◌≤◌, ◌<◌, length, get_or}
use Rattle.letters.specs.Places.{letter}
use Rattle.sums.specs.Sums.{run_start, RunsInside}
use Rattle.sequences.specs.Steps.Windows.{Summed}

-- letter p of run u, of so many letters
unfoldable pub run_letter : List ℕ → List ℕ → ℕ → ℕ → ℕ → ℕ
run_letter from starts size u p = letter 0 from (run_start starts u) size p

-- n runs of so many letters each, and by how much each is moved right
pub record MovedRuns (starts leads : List ℕ) (n size long : ℕ) : Type 0 where
  pub inside : RunsInside starts n size long
  pub few : n ≤ 16
  pub led : n ≤ length leads

-- from index front of the window up to back, all runs have a letter
pub record AllSeen (leads : List ℕ) (n size skip front back : ℕ) : Type 0 where
  pub order : front ≤ back
  pub begun : (u : ℕ) → 1 ≤ u → u ≤ n → run_start leads u ≤ skip + front
  pub going : skip + back ≤ size

-- the window leaves out nothing but letters before all runs' first, or of the runs themselves; and where they are seen from is a number of the machine
pub record SeenFrom (starts leads : List ℕ) (n skip : ℕ) : Type 0 where
  pub many : n ≤ length starts
  pub led : n ≤ length leads
  pub few : n ≤ 16
  pub begun : (u : ℕ) → u < n → get_or leads u 0 ≤ skip
  pub small : (u : ℕ) → u < n → get_or starts u 0 + skip < 2 ^ 64

-- where each run is seen from
pub record SeenStarts (starts leads : List ℕ) (n skip : ℕ) (seen : List ℕ) : Type 0 where
  pub long : length seen ≡ 16
  pub later : (u : ℕ) → u < n → get_or seen u 0 ≡ get_or starts u 0 + (skip - get_or leads u 0)

-- the buffer holds the sum of the n runs
pub record Holding (from starts leads : List ℕ) (n size skip : ℕ) (before after : List ℕ) : Type 0 where
  pub same_length : length after ≡ length before
  pub summed : Summed n skip (run_start leads) (run_letter from starts size) after
