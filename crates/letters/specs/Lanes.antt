-- Letters that are bytes, and their bit lanes.
use Rattle.std.specs.Prelude.{◌≡◌, Bool, List, ℕ, ◌/◌, ◌%◌, ◌^◌, ◌<◌, eqb, length, get_or}
use Rattle.letters.specs.Algebra.{Adding}

-- numbers that are all below 256
pub record Bytes (xs : List ℕ) : Type 0 where
  pub below : (i : ℕ) → i < length xs → get_or xs i 0 < 256

-- the bit of a byte in lane b, counted from 0
unfoldable pub lane : ℕ → ℕ → Bool
lane b x = eqb (x / 2 ^ b % 2) 1

-- a map of letters that takes sums to sums, as a lane does
pub record Carries {A B : Type 0} (𝓐 : Adding A) (𝓑 : Adding B) (h : A → B) : Type 0 where
  pub none : h 𝓐.none ≡ 𝓑.none
  pub plus : (x y : A) → h (𝓐.plus x y) ≡ 𝓑.plus (h x) (h y)
