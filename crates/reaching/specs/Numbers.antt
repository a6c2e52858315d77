-- The number of a byte that can't stand.
use Rattle.std.specs.Prelude.{ℕ}
use Rattle.group.specs.Answers.{refusal_number}
use Rattle.kinds.specs.Kinds.{head_size}
use Rattle.refusing.specs.Steps.Refusing.{refusal_at}

-- The number of what is wrong with a byte that can't stand at this index of a share of so many letters whose head is of this kind. It is computed by the code's own tests: that it
-- is the one number that `Wrong` allows is `number_exactly` (crates/arriving/proofs/Meaning.antt).
abbrev pub number_at : ℕ → ℕ → ℕ → ℕ
number_at kind letters at = refusal_number (refusal_at (head_size kind) letters at)
