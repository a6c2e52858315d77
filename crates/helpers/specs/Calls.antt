-- What a helper answers, and what it leaves in the lent piece, whatever comes in.
use Rattle.std.specs.Prelude.{List, not, ℕ, eqb, length}
use Rattle.letters.specs.Algebra.{xors}
use Rattle.group.specs.declared.Group.{Group}
use Rattle.group.specs.Answers.{Answer}
use Rattle.group.specs.Answers.{unless, first, Called}
use Rattle.group.specs.Ranges.{node_refusal}
use Rattle.letters.specs.Places.{both}
use Rattle.group.specs.Ranges.{between}
use Rattle.lengths.specs.Lengths.{node_letters, repair_letters}
use Rattle.matrix.specs.Repair.{helping}

-- help: 1, 2, then 3 for either id or the rank, 4 for a helper that is the lost node
unfoldable pub helper_refusal : Group → ℕ → ℕ → ℕ → ℕ
helper_refusal g lost helper rank =
    first (node_refusal g lost)
    (first (unless (both (between 1 g.n helper) (between 1 g.d rank)) 3) (unless (not (eqb helper lost)) 4))

-- and then 5 for the helper's packets, 6 for the piece
unfoldable pub help_refusal : Group → ℕ → ℕ → ℕ → ℕ → ℕ → ℕ
unfolding helper_refusal
help_refusal g lost helper rank held out =
    first (helper_refusal g lost helper rank)
    (first (unless (eqb held (node_letters g helper)) 5) (unless (eqb out (repair_letters g lost)) 6))

-- the buffer holds the piece
abbrev pub Helped : Group → ℕ → ℕ → ℕ → List ℕ → List ℕ → List ℕ → Answer → Type 0
Helped g lost helper rank held before after r =
    Called (help_refusal g lost helper rank (length held) (length before)) 0 (helping xors g lost helper rank held) before after r
