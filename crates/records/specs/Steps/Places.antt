-- Which byte can stand at a place of a share. Records count from 0, the head, and offsets from 0, the kind. Every block is as
-- long as any other, so where the head's size is known the place of a byte tells its record and its offset.
use Rattle.std.specs.Prelude.{Bool, true, cond, List, ℕ, zero, suc, ◌+◌, ◌-◌, ◌*◌, ◌/◌, ◌%◌, leb, ltb, eqb, length, get_or}
use Rattle.letters.specs.Places.{both, either}
use Rattle.records.specs.Records.{kind_full, kind_last, block_size, end_size, block_letters, blocks, end_record}

-- the kind of block r, from 0: full, or the last
abbrev pub block_kind : ℕ → ℕ → ℕ
block_kind letters r = cond (leb ((r + 1) * block_letters) letters) kind_full kind_last

-- the byte at an offset of block r: its kind, and then a letter, or 0 past the last one
abbrev pub block_byte : List ℕ → ℕ → ℕ → ℕ
block_byte letters r zero = block_kind (length letters) r
block_byte letters r (suc j) = get_or letters (r * block_letters + j) 0

-- the letter at index i, from 0, as the bytes of a share with this size of head have it
abbrev pub letter_in : ℕ → List ℕ → ℕ → ℕ
letter_in head xs i = get_or xs (head + (i / block_letters * block_size + suc (i % block_letters))) 0

-- in block r: its kind, then letters, which may be any, then zeros
unfoldable pub block_stands : ℕ → ℕ → ℕ → ℕ → Bool
block_stands letters r zero byte = eqb byte (block_kind letters r)
block_stands letters r (suc j) byte = either (ltb (r * block_letters + j) letters) (eqb byte 0)

-- in the end: its kind and the bytes of T, and nothing after them
unfoldable pub end_stands : ℕ → ℕ → ℕ → Bool
end_stands letters j byte = both (ltb j end_size) (eqb byte (get_or (end_record letters) j 0))

-- past the head, at this offset of record r from 0: a block, the end, or nothing
unfoldable pub record_stands : ℕ → ℕ → ℕ → ℕ → Bool
record_stands letters r j byte =
    cond (ltb r (blocks letters)) (block_stands letters r j byte)
    (both (eqb r (blocks letters)) (end_stands letters j byte))

-- a byte can stand at this offset of this record, where these are the tests of the head's bytes
unfoldable pub stands_in : List Bool → ℕ → ℕ → ℕ → ℕ → Bool
stands_in tests letters zero j byte = get_or tests j true
stands_in tests letters (suc r) j byte = record_stands letters r j byte

-- the index at which a record starts, and its bytes; what is past the end counts with it, since nothing stands there
abbrev pub record_start : ℕ → ℕ → ℕ
record_start head zero = 0
record_start head (suc r) = head + r * block_size

abbrev pub record_size : ℕ → ℕ → ℕ
record_size head zero = head
record_size head (suc r) = block_size

-- the record and the offset of the byte at index p
abbrev pub record_at : ℕ → ℕ → ℕ
record_at head p = cond (ltb p head) 0 (suc ((p - head) / block_size))

abbrev pub offset_at : ℕ → ℕ → ℕ
offset_at head p = cond (ltb p head) p ((p - head) % block_size)
