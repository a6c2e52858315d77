-- What encoding answers, and what it leaves in the lent buffer, whatever comes in.
use Rattle.std.specs.Prelude.{List, ℕ, eqb, length}
use Rattle.letters.specs.Algebra.{xors}
use Rattle.group.specs.declared.Group.{Group}
use Rattle.group.specs.Answers.{Answer}
use Rattle.group.specs.Answers.{unless, first, Called}
use Rattle.group.specs.Ranges.{node_refusal}
use Rattle.lengths.specs.Lengths.{file_letters, node_letters}
use Rattle.matrix.specs.Matrix.{packets}

-- encode: refusals 1, 2, 3, then 5 for the file and 6 for the packets
unfoldable pub encode_refusal : Group → ℕ → ℕ → ℕ → ℕ
encode_refusal g node file out =
    first (node_refusal g node) (first (unless (eqb file (file_letters g)) 5) (unless (eqb out (node_letters g node)) 6))

-- there is nothing to count, and the buffer holds the node's packets
abbrev pub Encoded : Group → ℕ → List ℕ → List ℕ → List ℕ → Answer → Type 0
Encoded g node file before after r =
    Called (encode_refusal g node (length file) (length before)) 0 (packets xors g file node) before after r
