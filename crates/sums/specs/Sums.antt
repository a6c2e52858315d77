-- Several runs of one buffer, each from its own start, summed letter by letter.
use Rattle.std.specs.Prelude.{◌≡◌, List, ℕ, ◌+◌, ◌-◌, ◌≤◌, ◌<◌, length, get_or}
use Rattle.letters.specs.Algebra.{xors, sum}
use Rattle.letters.specs.Steps.Rests.{widest_block}

-- the index at which run u starts, counted from 1
abbrev pub run_start : List ℕ → ℕ → ℕ
run_start starts u = get_or starts (u - 1) 0

-- the letters that stand q behind the starts of the first n runs, summed
unfoldable pub sum_at : List ℕ → List ℕ → ℕ → ℕ → ℕ
unfolding sum
sum_at from starts n q = sum xors n (λ u. get_or from (run_start starts u + q) 0)

-- n runs, at least one, of so many letters each, all inside a buffer
pub record RunsInside (starts : List ℕ) (n count long : ℕ) : Type 0 where
  pub some : 1 ≤ n
  pub many : n ≤ length starts
  pub fits : (u : ℕ) → 1 ≤ u → u ≤ n → run_start starts u + count ≤ long

-- none of the n runs starts before this index
pub record NoneBefore (starts : List ℕ) (n to : ℕ) : Type 0 where
  pub from : (u : ℕ) → 1 ≤ u → u ≤ n → to ≤ run_start starts u

-- a block of the sum, from the letters on that stand `at` behind the starts
pub record BlockOf (from starts : List ℕ) (n at : ℕ) (block : List ℕ) : Type 0 where
  pub long : length block ≡ widest_block
  pub letters : (q : ℕ) → q < widest_block → get_or block q 0 ≡ sum_at from starts n (at + q)
