-- The laws that a layout has to show, and that everything about its shares follows from.
use Rattle.std.specs.Prelude.{◌≡◌, true, List, [], ◌∷◌, ◌++◌, ℕ, suc, ◌≤◌, ◌<◌, length, get_or}
use Rattle.layout.specs.Layout.{Layout, size_in}
use Rattle.letters.specs.Lanes.{Bytes}

-- two lists have the same bytes below index n
abbrev pub SameBelow : ℕ → List ℕ → List ℕ → Type 0
SameBelow n xs zs = (i : ℕ) → i < n → get_or xs i 0 ≡ get_or zs i 0

-- the first n bytes of a head pass their tests
abbrev pub Passes : {Head : Type 0} → Layout Head → List ℕ → ℕ → Type 0
Passes y xs n = (p : ℕ) → p < n → get_or (y.head_tests xs) p true ≡ true

pub record Lawful {Head : Type 0} (y : Layout Head) : Type 0 where
  -- a head has a kind, whatever it is
  pub some : (kind : ℕ) → 1 ≤ y.head_size kind
  -- the bytes of a head in range are as many as its kind says, pass their tests and tell the head, whatever comes after them
  pub sized : (h : Head) → y.Allowed h → length (y.head_record h) ≡ size_in y (y.head_record h)
  pub passed : (h : Head) → y.Allowed h → (rest : List ℕ) → Passes y (y.head_record h ++ rest) (size_in y (y.head_record h))
  pub told : (h : Head) → y.Allowed h → (rest : List ℕ) → y.head_in (y.head_record h ++ rest) ≡ h
  -- what the bytes tell and how they are tested depends on no later one
  pub same_head : (xs zs : List ℕ) → SameBelow (size_in y xs) xs zs → y.head_in xs ≡ y.head_in zs
  pub same_test :
      (xs zs : List ℕ) (p : ℕ) → p < size_in y xs → SameBelow (suc p) xs zs
      → get_or (y.head_tests xs) p true ≡ get_or (y.head_tests zs) p true
  -- bytes that pass all tests are those of a head in range
  pub ranged : (xs : List ℕ) → Bytes xs → size_in y xs ≤ length xs → Passes y xs (size_in y xs) → y.Allowed (y.head_in xs)
  pub own :
      (xs : List ℕ) → Bytes xs → size_in y xs ≤ length xs → Passes y xs (size_in y xs)
      → SameBelow (size_in y xs) xs (y.head_record (y.head_in xs))
  -- while the head isn't all there, some byte can stand next
  pub next :
      (xs : List ℕ) → Bytes xs → length xs < size_in y xs → Passes y xs (length xs)
      → (byte : ℕ) × (byte < 256) × (get_or (y.head_tests (xs ++ byte ∷ [])) (length xs) true ≡ true)
