-- What the exported calls return and leave: 0 or the refusal's number, and the answer in a lent number, which a refusal leaves as it was.
use Rattle.std.specs.Prelude.{◌≡◌, List, ℕ, length}
use Rattle.group.specs.Answers.{if_fine}

-- the call returns the refusal's number, 0 where there is none; then the lent number holds the value, and else what it held
pub record Tells (refusal value before after r : ℕ) : Type 0 where
  pub returned : r ≡ refusal
  pub told : after ≡ if_fine refusal value before

-- the same where the answer is what a lent buffer holds
pub record Fills (refusal : ℕ) (right before after : List ℕ) (r : ℕ) : Type 0 where
  pub returned : r ≡ refusal
  pub holds : after ≡ if_fine refusal right before

-- a call that solves in place (`SolvesInPlace`), whose count is told
pub record SolvesTold (refusal : ℕ) (gives : List ℕ → List ℕ) (worth : List ℕ → ℕ) (before after : List ℕ) (count count' r : ℕ) : Type 0 where
  pub tells : Tells refusal (worth after) count count' r
  pub same_length : length after ≡ length before
  pub holds : if_fine refusal (gives after) after ≡ before
