-- What the exported recovery and repair return and leave.
use Rattle.std.specs.Prelude.{List, ℕ, length}
use Rattle.letters.specs.Algebra.{xors}
use Rattle.group.specs.declared.Group.{Group}
use Rattle.matrix.specs.Pieces.{reading}
use Rattle.matrix.specs.Repair.{equations}
use Rattle.matrix.specs.Counts.{recovery_count, repair_count}
use Rattle.recovering.specs.Calls.{recover_refusal}
use Rattle.rebuilding.specs.Calls.{repair_refusal}
use Rattle.c_answers.specs.Exports.{SolvesTold}

-- recovery: reading what the buffer holds at exit gives what it held at entry, and the count is told
abbrev pub Recovers : Group → List ℕ → List ℕ → List ℕ → ℕ → ℕ → ℕ → Type 0
Recovers g ids before after count count' r =
    SolvesTold (recover_refusal g ids (length before)) (λ file. reading xors g file ids) (recovery_count g ids) before after count count' r

-- repair: the equations of what the buffer holds at exit are what it held at entry, and the count is told
abbrev pub Repairs : Group → ℕ → List ℕ → List ℕ → List ℕ → ℕ → ℕ → ℕ → Type 0
Repairs g lost helpers before after count count' r =
    SolvesTold (repair_refusal g lost helpers (length before)) (equations xors g lost helpers) (repair_count g lost helpers) before after count count' r
