-- The share of document 01 (docs/SCHEME.md, 9): a head, the letters in blocks, and an end.
use Rattle.std.specs.Prelude.{◌≡◌, List, ◌++◌, ℕ, length}
use Rattle.letters.specs.Lanes.{Bytes}
use Rattle.records.specs.Records.{block_records, end_record}
use Rattle.layout.specs.Layout.{Layout}

-- the share: the head, the blocks, the end, and nothing more
unfoldable pub share_of : {Head : Type 0} → Layout Head → Head → List ℕ → List ℕ
share_of y h letters = y.head_record h ++ (block_records letters ++ end_record (length letters))

-- xs is the share of this head and these letters: the head's numbers are in range, and there are T letters
pub record ShareOf {Head : Type 0} (y : Layout Head) (h : Head) (letters xs : List ℕ) : Type 0 where
  pub allowed : y.Allowed h
  pub count : length letters ≡ y.total h
  pub bytes : Bytes letters
  pub is : xs ≡ share_of y h letters
