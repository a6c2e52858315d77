-- What is passed over of a share's records: bytes that can stand, whatever they are.
use Rattle.std.specs.Prelude.{◌≡◌, Bool, true, List, ℕ, ◌+◌, ◌-◌, ◌*◌, ◌≤◌, ◌<◌, length, get_or}
use Rattle.records.specs.Records.{kind_full, block_size, block_letters}
use Rattle.records.specs.Steps.Places.{stands_in}

-- so many bytes after this one in its record are letters, in a full block all the others: any byte can stand there, and where there are any, zero up
-- to the record's end
pub record Lettered (letters nth offset count : ℕ) : Type 0 where
  pub few : count ≤ block_letters
  pub inside : 1 ≤ count → offset + count ≤ block_letters
  pub whole : 1 ≤ nth → nth * block_letters ≤ letters → offset ≤ block_letters → offset + count ≡ block_letters
  pub any : (tests : List Bool) (j byte : ℕ) → offset < j → j ≤ offset + count → stands_in tests letters nth j byte ≡ true
  pub filled : 1 ≤ count → (tests : List Bool) (j : ℕ) → offset < j → stands_in tests letters nth j 0 ≡ true

-- from index a up to r all bytes are zero
pub record ZerosTo (xs : List ℕ) (a end r : ℕ) : Type 0 where
  pub on : a ≤ r
  pub within : r ≤ end
  pub zeros : (p : ℕ) → a ≤ p → p < r → get_or xs p 0 ≡ 0

-- between the byte at this index, which has this offset in its record, and the next one that is looked at, all bytes of the record stand
pub record Skips (xs : List ℕ) (letters nth offset at end next : ℕ) : Type 0 where
  pub on : at < next
  pub within : next ≤ end
  pub stand : (tests : List Bool) (p : ℕ) → at < p → p < next → stands_in tests letters nth (offset + (p - at)) (get_or xs p 0) ≡ true

-- from block r, which begins at this index, up to the end all bytes are of full blocks, the kinds too
pub record FullBlocks (start : ℕ) (xs : List ℕ) (letters r end : ℕ) : Type 0 where
  pub on : start ≤ end
  pub there : end ≤ length xs
  pub full : (q : ℕ) → start + q * block_size < end → (r + q + 1) * block_letters ≤ letters
  pub kinds : (q : ℕ) → start + q * block_size < end → get_or xs (start + q * block_size) 0 ≡ kind_full
