-- A run that was multiplied, so that a wider stride is left to divide by.
use Rattle.std.specs.Prelude.{List, ℕ, ◌≤◌, ◌<◌, length}
use Rattle.dividing.specs.Running.{RunningSum}

-- the letters of a step
abbrev pub step : ℕ
step = 16

-- what sums the run ys at the stride `wide` sums the run xs at the stride w; where the run is longer than that stride, it is a step or more
pub record Widened (xs ys : List ℕ) (w wide : ℕ) : Type 0 where
  pub some : 1 ≤ wide
  pub steps : wide < length xs → step ≤ wide
  pub back : (zs : List ℕ) → RunningSum ys zs wide (length xs) wide → RunningSum xs zs w (length xs) w
