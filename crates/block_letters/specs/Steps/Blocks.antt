-- A share's letters in its blocks.
use Rattle.std.specs.Prelude.{◌≡◌, List, ℕ, ◌+◌, ◌-◌, ◌/◌, ◌%◌, ◌<◌, length, get_or}
use Rattle.records.specs.Records.{block_size}
use Rattle.records.specs.Steps.Places.{block_byte, letter_in}

-- the letters that these bytes have in their blocks, so many
pub record Copied (head : ℕ) (xs : List ℕ) (count : ℕ) (letters : List ℕ) : Type 0 where
  pub counted : length letters ≡ count
  pub copied : (i : ℕ) → i < count → get_or letters i 0 ≡ letter_in head xs i

-- the byte of the blocks at index p of a share with this size of head
abbrev pub blocks_byte : ℕ → List ℕ → ℕ → ℕ
blocks_byte head letters p = block_byte letters ((p - head) / block_size) ((p - head) % block_size)

-- so many bytes from index a on
pub record TakenFrom (xs : List ℕ) (a count : ℕ) (ys : List ℕ) : Type 0 where
  pub counted : length ys ≡ count
  pub taken : (i : ℕ) → i < count → get_or ys i 0 ≡ get_or xs (a + i) 0
