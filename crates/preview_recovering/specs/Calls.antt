-- What recovering a file of previews answers, and what it leaves in the buffer, whatever comes in.
use Rattle.std.specs.Prelude.{List, ℕ, eqb, length}
use Rattle.letters.specs.Algebra.{xors}
use Rattle.group.specs.declared.Group.{Group}
use Rattle.group.specs.Answers.{Answer}
use Rattle.group.specs.Answers.{unless, first, SolvesInPlace}
use Rattle.ids.specs.Ids.{ids_refusal}
use Rattle.preview_numbers.specs.Previews.{preview_group_refusal, preview_file}
use Rattle.preview_product.specs.Preview.{preview_reading, preview_count}

-- recover: 1, 2, 3 for an id or the number of ids, 4
unfoldable pub preview_readers_refusal : Group → List ℕ → ℕ
preview_readers_refusal g ids = first (preview_group_refusal g) (ids_refusal g g.k ids)

-- and then 5 for the buffer
unfoldable pub preview_recover_refusal : Group → List ℕ → ℕ → ℕ
unfolding preview_readers_refusal
preview_recover_refusal g ids buffer = first (preview_readers_refusal g ids) (unless (eqb buffer (preview_file g)) 5)

-- reading what the buffer holds at exit gives what it held at entry, and the count is the number of terms whose letter of that isn't zero; a refused call leaves it as it was
abbrev pub PreviewRecovered : Group → List ℕ → List ℕ → List ℕ → Answer → Type 0
PreviewRecovered g ids before after r =
    SolvesInPlace (preview_recover_refusal g ids (length before)) (λ file. preview_reading xors g file ids) (preview_count g ids) before after r
