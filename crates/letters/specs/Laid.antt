-- What is laid into a buffer.
use Rattle.std.specs.Prelude.{◌≡◌, List, ℕ, ◌≤◌, ◌<◌, length, get_or}

-- from index a up to b stand these letters, and every other letter is as it was
pub record Laid (xs ys : List ℕ) (a b : ℕ) (letter : ℕ → ℕ) : Type 0 where
  pub same_length : length ys ≡ length xs
  pub before : (p : ℕ) → p < a → get_or ys p 0 ≡ get_or xs p 0
  pub laid : (p : ℕ) → a ≤ p → p < b → get_or ys p 0 ≡ letter p
  pub after : (p : ℕ) → b ≤ p → get_or ys p 0 ≡ get_or xs p 0
