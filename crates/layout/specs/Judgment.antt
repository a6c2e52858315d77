-- What bytes are, by what a share is alone: a share, the beginning of one, or neither.
use Rattle.std.specs.Prelude.{List, ◌++◌, ℕ, ◌+◌, ◌≤◌, ◌<◌, length, take}
use Rattle.layout.specs.Layout.{Layout}
use Rattle.layout.specs.Share.{ShareOf}

-- the share of this head and some letters
abbrev pub IsShareOf : {Head : Type 0} → Layout Head → Head → List ℕ → Type 0
IsShareOf y h xs = (letters : List ℕ) × ShareOf y h letters xs

-- a share
abbrev pub IsShare : {Head : Type 0} → Layout Head → List ℕ → Type 0
IsShare {Head} y xs = (h : Head) × (letters : List ℕ) × ShareOf y h letters xs

-- the beginning of some share, but not all of it
abbrev pub IsBeginning : {Head : Type 0} → Layout Head → List ℕ → Type 0
IsBeginning y xs = (ys : List ℕ) × (1 ≤ length ys) × IsShare y (xs ++ ys)

-- neither a share nor the beginning of one
abbrev pub IsNeither : {Head : Type 0} → Layout Head → List ℕ → Type 0
IsNeither y xs = (IsShare y xs → ⊥) × (IsBeginning y xs → ⊥)

-- a share can have these bytes first: some bytes after them, or none, make one
abbrev pub CanStand : {Head : Type 0} → Layout Head → List ℕ → Type 0
CanStand y xs = (ys : List ℕ) × IsShare y (xs ++ ys)

-- the byte at index q is the first that no share has there after the bytes before it
pub record Offends {Head : Type 0} (y : Layout Head) (xs : List ℕ) (q : ℕ) : Type 0 where
  pub within : q < length xs
  pub before : CanStand y (take q xs)
  pub not_with : CanStand y (take (q + 1) xs) → ⊥
