-- What repair answers, and what it leaves in the buffer, whatever comes in.
use Rattle.std.specs.Prelude.{List, not, ℕ, eqb, length}
use Rattle.letters.specs.Algebra.{xors}
use Rattle.group.specs.declared.Group.{Group}
use Rattle.group.specs.Answers.{Answer}
use Rattle.group.specs.Answers.{unless, first, SolvesInPlace}
use Rattle.group.specs.Ranges.{node_refusal}
use Rattle.ids.specs.Ids.{among, ids_refusal}
use Rattle.lengths.specs.Lengths.{repair_buffer}
use Rattle.matrix.specs.Repair.{equations}
use Rattle.matrix.specs.Counts.{repair_count}

-- repair: 4 for a lost node that is one of its helpers
unfoldable pub apart_refusal : ℕ → List ℕ → ℕ
apart_refusal lost helpers = unless (not (among lost helpers)) 4

-- 1, 2, 3 for an id or the number of helpers, 4
unfoldable pub helpers_refusal : Group → ℕ → List ℕ → ℕ
unfolding apart_refusal
helpers_refusal g lost helpers = first (node_refusal g lost) (first (ids_refusal g g.d helpers) (apart_refusal lost helpers))

-- and then 5 for the buffer
unfoldable pub repair_refusal : Group → ℕ → List ℕ → ℕ → ℕ
unfolding helpers_refusal
repair_refusal g lost helpers buffer = first (helpers_refusal g lost helpers) (unless (eqb buffer (repair_buffer g lost)) 5)

-- what the buffer holds at exit solves the d equations for what it held at entry, and the count is the number of terms whose letter of that isn't zero; a refused call leaves it as it was
abbrev pub Repaired : Group → ℕ → List ℕ → List ℕ → List ℕ → Answer → Type 0
Repaired g lost helpers before after r =
    SolvesInPlace (repair_refusal g lost helpers (length before)) (equations xors g lost helpers) (repair_count g lost helpers) before after r
