-- A layout says what tells one head from another; all else of a share is the same under any. A head's first byte is its kind, so
-- that one layout has room for several kinds.
use Rattle.std.specs.Prelude.{Bool, List, ℕ, get_or}

pub record Layout (Head : Type 0) : Type 1 where
  -- the head: its kind and its numbers, as bytes
  pub head_record : Head → List ℕ
  -- its numbers are in the ranges that document 01 gives (docs/SCHEME.md, 1)
  pub Allowed : Head → Type 0
  -- T, the letters of a share with this head
  pub total : Head → ℕ
  -- What a share is rests on these three. The others are how it is read, and the laws tie them to what it is:
  -- the bytes of a head of this kind
  pub head_size : ℕ → ℕ
  -- the head's numbers as bytes have them; a byte that isn't there counts as 0
  pub head_in : List ℕ → Head
  -- the test of each byte of the head, after those before it
  pub head_tests : List ℕ → List Bool

-- the size of the head, and T, as bytes have them
abbrev pub size_in : {Head : Type 0} → Layout Head → List ℕ → ℕ
size_in y xs = y.head_size (get_or xs 0 0)

abbrev pub total_in : {Head : Type 0} → Layout Head → List ℕ → ℕ
total_in y xs = y.total (y.head_in xs)
