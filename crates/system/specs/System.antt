-- s shifted sums over s unknown sequences. Ranks and places count from 1; t b a is the shift of the node of rank b at column a.
use Rattle.std.specs.Prelude.{◌≡◌, List, ℕ, ◌+◌, ◌-◌, ◌*◌, ◌<◌}
use Rattle.letters.specs.Algebra.{Adding, sum}
use Rattle.letters.specs.Places.{letter}

-- What the piece of rank b has at place p, of the sequences x: sequence a lies at t(b,a) - t(b,b) in it.
unfoldable pub part : {A : Type 0} → Adding A → ℕ → (ℕ → ℕ → ℕ) → (ℕ → ℕ → A) → ℕ → ℕ → A
unfolding sum
part 𝓐 s t x b p = sum 𝓐 s (λ a. x a ((p + t b b) - t b a))

-- Sequence a of those of n letters each that lie one after another in a buffer: its letter at place p, zero outside 1..n.
unfoldable pub sequence : {A : Type 0} → A → List A → ℕ → ℕ → ℕ → A
unfolding letter
sequence none xs n a p = letter none xs ((a - 1) * n) n p

-- Sequences of n letters: nothing stands outside 1..n.
pub record Sequences {A : Type 0} (none : A) (n : ℕ) (x : ℕ → ℕ → A) : Type 0 where
  pub nothing_below : (a : ℕ) → x a 0 ≡ none
  pub nothing_above : (a p : ℕ) → n < p → x a p ≡ none
