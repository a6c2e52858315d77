-- Running sums within a buffer.
use Rattle.std.specs.Prelude.{◌≡◌, List, ℕ, ◌-◌, ◌≤◌, ◌<◌, length, get_or}
use Rattle.std.specs.Int.Bits.{bit_xor}

-- from index a up to b each letter is the sum of what it was and of what stands w before it now, and every other letter is as it was
pub record RunningSum (xs ys : List ℕ) (a b w : ℕ) : Type 0 where
  pub same_length : length ys ≡ length xs
  pub before : (p : ℕ) → p < a → get_or ys p 0 ≡ get_or xs p 0
  pub summed : (p : ℕ) → a ≤ p → p < b → get_or ys p 0 ≡ bit_xor (get_or xs p 0) (get_or ys (p - w) 0)
  pub after : (p : ℕ) → b ≤ p → get_or ys p 0 ≡ get_or xs p 0
