-- What the exported recovery of previews returns and leaves.
use Rattle.std.specs.Prelude.{List, ℕ, length}
use Rattle.letters.specs.Algebra.{xors}
use Rattle.group.specs.declared.Group.{Group}
use Rattle.preview_product.specs.Preview.{preview_reading, preview_count}
use Rattle.preview_recovering.specs.Calls.{preview_recover_refusal}
use Rattle.c_answers.specs.Exports.{SolvesTold}

-- reading what the buffer holds at exit gives what it held at entry, and the count is told
abbrev pub PreviewRecovers : Group → List ℕ → List ℕ → List ℕ → ℕ → ℕ → ℕ → Type 0
PreviewRecovers g ids before after count count' r =
    SolvesTold (preview_recover_refusal g ids (length before)) (λ file. preview_reading xors g file ids) (preview_count g ids) before after count count' r
