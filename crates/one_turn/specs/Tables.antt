-- The small tables of a system, and the runs of a tile as they stand in a buffer.
use Rattle.std.specs.Prelude.{◌≡◌, List, ℕ, ◌+◌, ◌-◌, ◌*◌, ◌≤◌, ◌<◌, length, get_or}
use Rattle.letters.specs.Places.{letter}
use Rattle.system.specs.Order.{delay, Ordered}

-- number b of a list, counted from 1
abbrev pub nth : List ℕ → ℕ → ℕ
nth xs b = get_or xs (b - 1) 0

-- the shifts of rows that go up by these exponents
abbrev pub even_shift : List ℕ → ℕ → ℕ → ℕ
even_shift exps b a = nth exps b * (a - 1)

-- the exponents of s ranks and the delays that follow from them
pub record Tables (s : ℕ) (exps delays : List ℕ) : Type 0 where
  pub few : s ≤ 16
  pub exponents : length exps ≡ 16
  pub waits : length delays ≡ 16
  pub ordered : Ordered s (even_shift exps)
  pub delayed : (b : ℕ) → 1 ≤ b → b ≤ s → nth delays b ≡ delay (even_shift exps) b

-- the runs of the ranks after `below` and up to `hi`, of m letters each, lie one after another in a buffer
pub record RunsApart (starts : List ℕ) (below hi m long : ℕ) : Type 0 where
  pub size : length starts ≡ 16
  pub few : hi ≤ 16
  pub order : (a b : ℕ) → below < a → a < b → b ≤ hi → nth starts a + m ≤ nth starts b
  pub fits : (b : ℕ) → below < b → b ≤ hi → nth starts b + m ≤ long

-- letter p of the run of rank b
abbrev pub runs_in : List ℕ → ℕ → List ℕ → ℕ → ℕ → ℕ
runs_in starts m buffer b p = letter 0 buffer (nth starts b) m p

-- only letters of those runs changed
pub record OnlyRuns (starts : List ℕ) (below hi m : ℕ) (before after : List ℕ) : Type 0 where
  pub same_length : length after ≡ length before
  pub kept :
      (i : ℕ) → ((b : ℕ) → below < b → b ≤ hi → nth starts b ≤ i → i < nth starts b + m → ⊥) → get_or after i 0 ≡ get_or before i 0
