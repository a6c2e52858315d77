-- What the search finds.
use Rattle.std.specs.Prelude.{◌≡◌, Bool, true, false, List, ℕ, ◌+◌, ◌-◌, ◌*◌, ◌≤◌, ◌<◌, length, get_or}
use Rattle.records.specs.Records.{block_size, total_limit}
use Rattle.records.specs.Steps.Places.{stands_in, record_at, offset_at}
use Rattle.layout.specs.Steps.Stands.{stands}
use Rattle.kinds.specs.Kinds.{head_size}
use Rattle.heads.specs.Heads.{head_tests, heads}
use Rattle.heads.specs.declared.Head.{Head}

-- this byte can stand at index p of a share with this head
unfoldable pub stands_at : Head → ℕ → ℕ → Bool
stands_at h p byte = stands_in (head_tests h) (heads.total h) (record_at (head_size h.kind) p) (offset_at (head_size h.kind) p) byte

-- no byte of a share stands as far as this
abbrev pub farthest : ℕ
farthest = block_size * total_limit

-- Where the first of these bytes stands at index `base` of a share with this head, every byte before q can stand; and q is past the last
-- byte, or that byte can't stand.
pub record StopsFrom (base : ℕ) (h : Head) (ys : List ℕ) (q : ℕ) : Type 0 where
  pub within : q ≤ length ys
  pub before : (p : ℕ) → p < q → stands_at h (base + p) (get_or ys p 0) ≡ true
  pub wrong : q < length ys → stands_at h (base + q) (get_or ys q 0) ≡ false

-- Between the byte at this index, which has this offset in its record, and the next one that is looked at, all bytes of the record stand, whatever the
-- tests of its head are, where those say nothing of the four bytes at its end.
pub record StepsOn (xs : List ℕ) (front letters nth offset at end next : ℕ) : Type 0 where
  pub on : at < next
  pub within : next ≤ end
  pub stand :
      (tests : List Bool) → ((j : ℕ) → front ≤ j + 4 → get_or tests j true ≡ true)
      → (p : ℕ) → at < p → p < next → stands_in tests letters nth (offset + (p - at)) (get_or xs p 0) ≡ true

-- every byte before index q stands; and q is past the last byte, or that byte doesn't stand
pub record Stops (xs : List ℕ) (q : ℕ) : Type 0 where
  pub within : q ≤ length xs
  pub before : (p : ℕ) → p < q → stands heads xs p ≡ true
  pub wrong : q < length xs → stands heads xs q ≡ false
