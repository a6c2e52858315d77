-- What encoding a preview answers, and what it leaves in the lent buffer, whatever comes in.
use Rattle.std.specs.Prelude.{List, ℕ, eqb, length}
use Rattle.letters.specs.Algebra.{xors}
use Rattle.group.specs.declared.Group.{Group}
use Rattle.group.specs.Answers.{Answer}
use Rattle.group.specs.Answers.{unless, first, Called}
use Rattle.preview_numbers.specs.Previews.{preview_node_refusal, preview_file, preview_packet}
use Rattle.preview_product.specs.Preview.{preview_letters}

-- encode: refusals 1, 2, 3, then 5 for the file and 6 for the packet
unfoldable pub preview_encode_refusal : Group → ℕ → ℕ → ℕ → ℕ
preview_encode_refusal g node file out =
    first (preview_node_refusal g node) (first (unless (eqb file (preview_file g)) 5) (unless (eqb out (preview_packet g node)) 6))

-- there is nothing to count, and the buffer holds the node's packet
abbrev pub PreviewEncoded : Group → ℕ → List ℕ → List ℕ → List ℕ → Answer → Type 0
PreviewEncoded g node file before after r =
    Called (preview_encode_refusal g node (length file) (length before)) 0 (preview_letters xors g file node) before after r
