-- Sums of sequences that are each moved right.
use Rattle.std.specs.Prelude.{ℕ, ◌-◌}
use Rattle.letters.specs.Algebra.{Adding, sum}

-- letter p of the sum of the s sequences x, each moved right by its shift
unfoldable pub moved : {A : Type 0} → Adding A → ℕ → (ℕ → ℕ) → (ℕ → ℕ → A) → ℕ → A
unfolding sum
moved 𝓐 s shift x p = sum 𝓐 s (λ u. x u (p - shift u))
