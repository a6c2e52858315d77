-- How far letters are the right ones, from the front.
use Rattle.std.specs.Prelude.{◌≡◌, List, ℕ, ◌≤◌, ◌<◌, length, get_or}

-- from index a up to b they are the right ones
pub record SamePart (held : List ℕ) (right : ℕ → ℕ) (a b : ℕ) : Type 0 where
  pub within : b ≤ length held
  pub same : (q : ℕ) → a ≤ q → q < b → get_or held q 0 ≡ right q

-- the first so many are
abbrev pub SameTo : List ℕ → (ℕ → ℕ) → ℕ → Type 0
SameTo held right count = SamePart held right 0 count

-- the first so many are, and the next one, if there is one, isn't
pub record SameFor (held : List ℕ) (right : ℕ → ℕ) (count : ℕ) : Type 0 where
  pub to : SameTo held right count
  pub ends : count < length held → get_or held count 0 ≡ right count → ⊥
