-- The turns that solve a tile, as relations between its runs before and after: run b has its m letters at the places 1..m, and nothing at 0.
use Rattle.std.specs.Prelude.{◌≡◌, ℕ, ◌+◌, ◌-◌, ◌≤◌, ◌<◌}
use Rattle.letters.specs.Algebra.{Adding}

-- The run k, moved right by d, was added to x.
abbrev pub Added : {A : Type 0} → Adding A → ℕ → ℕ → (ℕ → A) → (ℕ → A) → (ℕ → A) → Type 0
Added 𝓐 m d k x x' = (p : ℕ) → 1 ≤ p → p ≤ m → x' p ≡ 𝓐.plus (x p) (k (p - d))

-- x was summed up in strides of w: to each letter that w before it was added, as it is now.
abbrev pub SummedUp : {A : Type 0} → Adding A → ℕ → ℕ → (ℕ → A) → (ℕ → A) → Type 0
SummedUp 𝓐 m w x x' = (p : ℕ) → 1 ≤ p → p ≤ m → x' p ≡ 𝓐.plus (x p) (x' (p - w))

-- Two runs have the same letters.
abbrev pub Same : {A : Type 0} → ℕ → (ℕ → A) → (ℕ → A) → Type 0
Same m x x' = (p : ℕ) → 1 ≤ p → p ≤ m → x' p ≡ x p

-- No run has a letter at place 0.
abbrev pub Nothing : {A : Type 0} → Adding A → (ℕ → ℕ → A) → Type 0
Nothing 𝓐 x = (a : ℕ) → x a 0 ≡ 𝓐.none

-- Of the runs of the ranks after `below` and up to `hi`, only that of rank b changed.
abbrev pub Only : {A : Type 0} → ℕ → ℕ → ℕ → ℕ → (ℕ → ℕ → A) → (ℕ → ℕ → A) → Type 0
Only below hi m b x x' = (a : ℕ) → below < a → a ≤ hi → (a ≡ b → ⊥) → Same m (x a) (x' a)

-- Turn j on the way down has come through rank c: run j, moved right by its lag, was added to each run b after it, and the sum divided by 1 + D^(e j - e b).
pub record Lowered {A : Type 0} (𝓐 : Adding A) (below hi m : ℕ) (lag : ℕ → ℕ → ℕ) (e : ℕ → ℕ) (j c : ℕ) (x x' : ℕ → ℕ → A) : Type 0 where
  pub empty : Nothing 𝓐 x
  pub empty' : Nothing 𝓐 x'
  pub lower : (a : ℕ) → below < a → a ≤ j → Same m (x a) (x' a)
  pub turned :
      (b p : ℕ) → j < b → b ≤ c → 1 ≤ p → p ≤ m
      → x' b p ≡ 𝓐.plus (𝓐.plus (x b p) (x j (p - lag b j))) (x' b (p - (e j - e b)))
  pub upper : (a : ℕ) → c < a → a ≤ hi → Same m (x a) (x' a)

-- Turn j on the way up has come to rank c: to each run b from j on and before c the run after it was added, moved right by e j - e (b + 1).
pub record Raised {A : Type 0} (𝓐 : Adding A) (below hi m : ℕ) (e : ℕ → ℕ) (j c : ℕ) (x x' : ℕ → ℕ → A) : Type 0 where
  pub empty : Nothing 𝓐 x
  pub empty' : Nothing 𝓐 x'
  pub lower : (a : ℕ) → below < a → a < j → Same m (x a) (x' a)
  pub turned :
      (b p : ℕ) → j ≤ b → b < c → 1 ≤ p → p ≤ m
      → x' b p ≡ 𝓐.plus (x b p) (x (b + 1) (p - (e j - e (b + 1))))
  pub upper : (a : ℕ) → c ≤ a → a ≤ hi → Same m (x a) (x' a)
