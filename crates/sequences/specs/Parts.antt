-- What a system's equations give of the sequences in a buffer.
use Rattle.std.specs.Prelude.{List, ℕ}
use Rattle.letters.specs.Algebra.{Adding}
use Rattle.system.specs.System.{part, sequence}
use Rattle.sequences.specs.Lists.{run, joined}

-- the s parts of the s sequences of n letters that lie one after another in a buffer, cut to n letters and again one after another
unfoldable pub parts_of : {A : Type 0} → Adding A → ℕ → ℕ → (ℕ → ℕ → ℕ) → List A → List A
unfolding joined run part sequence
parts_of 𝓐 s n t xs = joined s (λ b. run n (part 𝓐 s t (sequence 𝓐.none xs n) b))
