-- How far the solver has come, by rounds, and the tile of rounds that comes next.
use Rattle.std.specs.Prelude.{◌≡◌, cond, ℕ, ◌+◌, ◌-◌, ◌*◌, ◌≤◌, ◌<◌, leb}
use Rattle.letters.specs.Algebra.{Adding, sum}
use Rattle.letters.specs.Places.{inside}
use Rattle.system.specs.System.{part}
use Rattle.system.specs.Order.{delay}
use Rattle.tiles.specs.Even.{lag}
use Rattle.tiles.specs.Turns.{Same}

-- The sequences x are solved for y up to a round: each equation up to it holds, and after it each letter is as it came.
pub record Through {A : Type 0} (𝓐 : Adding A) (s n : ℕ) (t : ℕ → ℕ → ℕ) (y x : ℕ → ℕ → A) (done : ℕ) : Type 0 where
  pub solved : (b p : ℕ) → 1 ≤ b → b ≤ s → 1 ≤ p → p ≤ n → delay t b + p ≤ done → part 𝓐 s t x b p ≡ y b p
  pub rest : (b p : ℕ) → 1 ≤ b → b ≤ s → 1 ≤ p → p ≤ n → done < delay t b + p → x b p ≡ y b p

-- The rounds done + 1 .. done + m, in which the ranks after `below` and up to `hi` have a letter each, and no other has one.
pub record Tile (s n : ℕ) (t : ℕ → ℕ → ℕ) (done m below hi : ℕ) : Type 0 where
  pub ranks : below ≤ hi
  pub few : hi ≤ s
  pub over : (a : ℕ) → 1 ≤ a → a ≤ below → n + delay t a ≤ done
  pub begun : (b : ℕ) → below < b → b ≤ hi → delay t b ≤ done
  pub not_over : (b : ℕ) → below < b → b ≤ hi → done + m ≤ n + delay t b
  pub to-come : (a : ℕ) → hi < a → a ≤ s → done + m ≤ delay t a

-- The run of rank b in a tile: letter p of it, and nothing outside 1..m.
unfoldable pub run_of : {A : Type 0} → A → (ℕ → ℕ → ℕ) → ℕ → ℕ → (ℕ → ℕ → A) → ℕ → ℕ → A
unfolding inside
run_of none t done m x b p = cond (inside m p) (x b ((done - delay t b) + p)) none

-- The index at which it starts, in a buffer of sequences of n letters.
abbrev pub start_of : (ℕ → ℕ → ℕ) → ℕ → ℕ → ℕ → ℕ
start_of t n done b = (b - 1) * n + (done - delay t b)

-- What equation b reads at place p of its run from before the tile: of sequence a the letter of lag b a rounds before, if that is a round up to `done`.
unfoldable pub read_before : {A : Type 0} → A → (ℕ → ℕ → ℕ) → ℕ → (ℕ → ℕ → A) → ℕ → ℕ → ℕ → A
unfolding lag
read_before none t done x b p a = cond (leb p (lag t b a)) (x a (((done + p) - lag t b a) - delay t a)) none

-- Only letters of a tile changed.
abbrev pub WithinTile : {A : Type 0} → ℕ → ℕ → (ℕ → ℕ → ℕ) → ℕ → ℕ → ℕ → ℕ → (ℕ → ℕ → A) → (ℕ → ℕ → A) → Type 0
WithinTile s n t done m below hi x x' =
    (a q : ℕ) → 1 ≤ a → a ≤ s → 1 ≤ q → q ≤ n → (below < a → a ≤ hi → done < delay t a + q → delay t a + q ≤ done + m → ⊥)
    → x' a q ≡ x a q

-- What equation b reads of the sequences 1..c from before a tile was taken out of its run, which is r now.
abbrev pub TakenTo : {A : Type 0} → Adding A → (ℕ → ℕ → ℕ) → ℕ → ℕ → (ℕ → ℕ → A) → ℕ → ℕ → (ℕ → A) → Type 0
TakenTo 𝓐 t done m x b c r =
    (p : ℕ) → 1 ≤ p → p ≤ m → r p ≡ 𝓐.plus (run_of 𝓐.none t done m x b p) (sum 𝓐 c (read_before 𝓐.none t done x b p))

-- That was taken out of the runs of the ranks up to c, of all sequences that have begun: the runs are g now, those of later ranks as they were in x.
pub record TakenOut {A : Type 0} (𝓐 : Adding A) (t : ℕ → ℕ → ℕ) (done m below hi : ℕ) (x : ℕ → ℕ → A) (c : ℕ) (g : ℕ → ℕ → A) : Type 0 where
  pub taken : (b : ℕ) → below < b → b ≤ c → TakenTo 𝓐 t done m x b hi (g b)
  pub rest : (b : ℕ) → c < b → b ≤ hi → Same m (run_of 𝓐.none t done m x b) (g b)
