-- A letter of a buffer with an earlier one added.
use Rattle.std.specs.Prelude.{List, ℕ, ◌+◌, ◌-◌, get_or}
use Rattle.std.specs.Int.Bits.{bit_xor}

-- the letter at index p, which is at or past index to, with the one added that stands as far past index from
abbrev pub plus_from : List ℕ → ℕ → ℕ → ℕ → ℕ
plus_from xs to from p = bit_xor (get_or xs p 0) (get_or xs (from + (p - to)) 0)
