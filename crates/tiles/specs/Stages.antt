-- What the turns of a tile keep: on the way down and on the way up again, of the runs g that the tile began with.
use Rattle.std.specs.Prelude.{◌≡◌, ℕ, zero, suc, ◌+◌, ◌-◌, ◌≤◌, ◌<◌}
use Rattle.letters.specs.Algebra.{Adding, sum}
use Rattle.tiles.specs.Turns.{Nothing, Same, Raised}

-- f (below + 1) + .. + f hi
unfoldable pub span : {A : Type 0} → Adding A → ℕ → ℕ → (ℕ → A) → A
unfolding sum
span 𝓐 below hi f = sum 𝓐 (hi - below) (λ u. f (below + u))

-- The runs x solve the system of the ranks after `below` and up to `hi`: each run of g is the sum of theirs, each moved right by its lag.
abbrev pub Solves : {A : Type 0} → Adding A → ℕ → ℕ → ℕ → (ℕ → ℕ → ℕ) → (ℕ → ℕ → A) → (ℕ → ℕ → A) → Type 0
Solves 𝓐 below hi m lag g x =
    (b p : ℕ) → below < b → b ≤ hi → 1 ≤ p → p ≤ m → g b p ≡ span 𝓐 below hi (λ a. x a (p - lag b a))

-- The way up: what the turns below + k, .., below + 1 make of the runs x solves the system for g.
unfoldable pub Up : {A : Type 0} → Adding A → ℕ → ℕ → ℕ → (ℕ → ℕ → ℕ) → (ℕ → ℕ) → (ℕ → ℕ → A) → ℕ → (ℕ → ℕ → A) → Type 0
Up 𝓐 below hi m lag e g zero x = Solves 𝓐 below hi m lag g x
Up {A} 𝓐 below hi m lag e g (suc k) x =
    (x' : ℕ → ℕ → A) → Raised 𝓐 below hi m e (below + suc k) hi x x' → Up 𝓐 below hi m lag e g k x'

-- The way down: the runs x are what the turns below + 1, .., below + k made of g. So whatever solves the system of the ranks after those for x, with the runs of
-- those as they are in x, rises to a solution for g.
unfoldable pub Down : {A : Type 0} → Adding A → ℕ → ℕ → ℕ → (ℕ → ℕ → ℕ) → (ℕ → ℕ) → (ℕ → ℕ → A) → ℕ → (ℕ → ℕ → A) → Type 0
unfolding Up
Down {A} 𝓐 below hi m lag e g k x =
    (z : ℕ → ℕ → A) → Nothing 𝓐 z → Solves 𝓐 (below + k) hi m lag x z
    → ((a : ℕ) → below < a → a ≤ below + k → Same m (x a) (z a)) → Up 𝓐 below hi m lag e g k z
