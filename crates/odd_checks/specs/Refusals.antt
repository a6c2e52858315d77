-- When the question which node is lying is refused: document 02's Ask 7 (docs/SCHEME.md, 18).
use Rattle.std.specs.Prelude.{List, ℕ, ◌+◌, eqb, leb, length}
use Rattle.group.specs.declared.Group.{Group}
use Rattle.group.specs.Answers.{unless, first}
use Rattle.group.specs.Ranges.{group_refusal}
use Rattle.ids.specs.Ids.{all_in_range, falling}
use Rattle.lengths.specs.Lengths.{file_letters}
use Rattle.matrix.specs.Matrix.{packets}
use Rattle.agreement.specs.Agreement.{letters_of}

-- refusals 1, 2, 3 for an id (how many there are isn't tested), 4
unfoldable pub present_refusal : Group → List ℕ → ℕ
unfolding all_in_range falling
present_refusal g ids = first (group_refusal g) (first (unless (all_in_range g.n ids) 3) (unless (falling ids) 4))

-- 5 for the packets, 13 for fewer than k+2, 6 for the buffer
unfoldable pub lengths_refusal : Group → List ℕ → ℕ → ℕ → ℕ
lengths_refusal g ids packets file =
    first (unless (eqb packets (letters_of g ids (length ids))) 5) (first (unless (leb (g.k + 2) (length ids)) 13) (unless (eqb file (file_letters g)) 6))

-- all of them, in this order
unfoldable pub odd_refusal : Group → List ℕ → ℕ → ℕ → ℕ
unfolding present_refusal lengths_refusal
odd_refusal g ids packets file = first (present_refusal g ids) (lengths_refusal g ids packets file)
