-- What adding sequences to a buffer, one after another, leaves in it.
use Rattle.std.specs.Prelude.{◌≡◌, List, ℕ, ◌+◌, ◌-◌, ◌<◌, length, get_or}
use Rattle.std.specs.Int.Bits.{bit_xor}
use Rattle.letters.specs.Algebra.{xors}
use Rattle.letters.specs.Places.{letter}
use Rattle.sequences.specs.Moved.{moved}

-- all letters are zero
pub record Zeros (letters : List ℕ) : Type 0 where
  pub zero : (q : ℕ) → get_or letters q 0 ≡ 0

-- the buffer is made all zero
pub record Cleared (before after : List ℕ) : Type 0 where
  pub same_length : length after ≡ length before
  pub zeros : Zeros after

-- each letter p has letter p + skip - lead of x added: x moved right by lead, seen through a window that leaves out its first skip places
pub record Adds (x : ℕ → ℕ) (skip lead : ℕ) (before after : List ℕ) : Type 0 where
  pub same_length : length after ≡ length before
  pub letters : (q : ℕ) → q < length before → get_or after q 0 ≡ bit_xor (get_or before q 0) (x ((q + 1 + skip) - lead))

-- the same for the letters of a run, which are zero outside it
abbrev pub Seen : List ℕ → ℕ → ℕ → List ℕ → List ℕ → Type 0
Seen run skip lead before after = Adds (letter 0 run 0 (length run)) skip lead before after

-- the first n of the sequences x, each moved right by its shift, are summed up in the buffer
pub record Summed (n skip : ℕ) (shift : ℕ → ℕ) (x : ℕ → ℕ → ℕ) (buffer : List ℕ) : Type 0 where
  pub sums : (q : ℕ) → q < length buffer → get_or buffer q 0 ≡ moved xors n shift x (q + 1 + skip)
