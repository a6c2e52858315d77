-- Letters are counted by the zeros among them, which takes the processor less.
use Rattle.std.specs.Prelude.{◌≡◌, List, ℕ, ◌+◌}
use Rattle.worth.specs.Worth.{worth_in}

-- so many of the n letters of xs from index start on are zero
pub record Zeros (xs : List ℕ) (start n zeros : ℕ) : Type 0 where
  pub all : zeros + worth_in xs start n ≡ n
