-- The records of a share that follow its head: the letters in blocks, and the end.
use Rattle.std.specs.Prelude.{List, [], ◌∷◌, ◌++◌, ℕ, zero, suc, ◌+◌, ◌-◌, ◌*◌, ◌/◌, ◌%◌, ◌^◌, length, get_or, take, drop, replicate}

-- their kinds
abbrev pub kind_full : ℕ
kind_full = 2

abbrev pub kind_last : ℕ
kind_last = 3

abbrev pub kind_end : ℕ
kind_end = 4

-- the letters of a block, and its bytes: its kind comes first
abbrev pub block_letters : ℕ
block_letters = 64

abbrev pub block_size : ℕ
block_size = 1 + block_letters

-- the bytes of T, and so of the end
abbrev pub total_bytes : ℕ
total_bytes = 4

abbrev pub end_size : ℕ
end_size = 1 + total_bytes

-- T is below this, since it has four bytes
abbrev pub total_limit : ℕ
total_limit = 256 ^ total_bytes

-- the blocks of so many letters, the last one filled up with zeros
abbrev pub blocks : ℕ → ℕ
blocks letters = (letters + (block_letters - 1)) / block_letters

-- the bytes of a share of so many letters whose head has this size
abbrev pub size_for : ℕ → ℕ → ℕ
size_for head letters = head + blocks letters * block_size + end_size

-- a number as so many bytes, least byte first
abbrev pub number : ℕ → ℕ → List ℕ
number zero x = []
number (suc size) x = x % 256 ∷ number size (x / 256)

-- the number of so many bytes from an index on, least byte first; a byte that isn't there counts as 0
abbrev pub number_in : ℕ → ℕ → List ℕ → ℕ
number_in zero at xs = 0
number_in (suc size) at xs = get_or xs at 0 + 256 * number_in size (suc at) xs

-- so many full blocks of the letters
unfoldable pub full_blocks : ℕ → List ℕ → List ℕ
full_blocks zero letters = []
full_blocks (suc count) letters = (kind_full ∷ take block_letters letters) ++ full_blocks count (drop block_letters letters)

-- the last block: the rest of the letters, then zeros; none where no letter is left
unfoldable pub last_block : List ℕ → List ℕ
last_block [] = []
last_block (x ∷ rest) = kind_last ∷ (x ∷ (rest ++ replicate (block_letters - length (x ∷ rest)) 0))

-- the blocks: floor(T/64) full ones, and a last one if 64 doesn't divide T
unfoldable pub block_records : List ℕ → List ℕ
block_records letters =
    let full = length letters / block_letters in
    full_blocks full letters ++ last_block (drop (full * block_letters) letters)

-- the end: T
abbrev pub end_record : ℕ → List ℕ
end_record letters = kind_end ∷ number total_bytes letters
