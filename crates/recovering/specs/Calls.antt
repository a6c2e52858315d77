-- What each call answers, and what it leaves in each lent buffer, whatever comes in.
use Rattle.std.specs.Prelude.{List, ℕ, eqb, length}
use Rattle.letters.specs.Algebra.{xors}
use Rattle.group.specs.declared.Group.{Group}
use Rattle.group.specs.Answers.{Answer}
use Rattle.group.specs.Answers.{unless, first, SolvesInPlace}
use Rattle.group.specs.Ranges.{group_refusal}
use Rattle.ids.specs.Ids.{ids_refusal}
use Rattle.lengths.specs.Lengths.{file_letters}
use Rattle.matrix.specs.Pieces.{reading}
use Rattle.matrix.specs.Counts.{recovery_count}

-- recover: 1, 2, 3 for an id or the number of ids, 4
unfoldable pub readers_refusal : Group → List ℕ → ℕ
readers_refusal g ids = first (group_refusal g) (ids_refusal g g.k ids)

-- and then 5 for the buffer
unfoldable pub recover_refusal : Group → List ℕ → ℕ → ℕ
unfolding readers_refusal
recover_refusal g ids buffer = first (readers_refusal g ids) (unless (eqb buffer (file_letters g)) 5)

-- reading what the buffer holds at exit gives what it held at entry, and the count is the number of terms whose letter of that isn't zero; a refused call leaves it as it was
abbrev pub Recovered : Group → List ℕ → List ℕ → List ℕ → Answer → Type 0
Recovered g ids before after r =
    SolvesInPlace (recover_refusal g ids (length before)) (λ file. reading xors g file ids) (recovery_count g ids) before after r
