-- What each exported call's contract says allows one number returned and one content of each lent number and buffer.
use mathlib.Core.Path.{◌≡◌}
use mathlib.Core.List.{List}
use Prim.Native.Nat.{ℕ}
use lib.ListN.{length}
use Rattle.group.specs.declared.Group.{Group}
use Rattle.letters.specs.Algebra.{xors}
use Rattle.matrix.specs.Pieces.{reading}
use Rattle.matrix.specs.Repair.{equations}
use Rattle.matrix.specs.Counts.{recovery_count, repair_count}
use Rattle.recovering.specs.Calls.{recover_refusal}
use Rattle.rebuilding.specs.Calls.{repair_refusal}
use Rattle.recovering.proofs.Outcomes.{one_recovered}
use Rattle.rebuilding.proofs.Outcomes.{one_repaired}
use Rattle.c_recovery.specs.Recovery.{Recovers, Repairs}
use Rattle.c_answers.proofs.Outcomes.{solves_told_once}

pub recovers_once :
    (g : Group) (ids before after after' : List ℕ) (count told told' r r' : ℕ) → Recovers g ids before after count told r
    → Recovers g ids before after' count told' r' → (after ≡ after') × (r ≡ r') × (told ≡ told')
recovers_once g ids before after after' count told told' r r' =
    solves_told_once (recover_refusal g ids (length before)) (λ file. reading xors g file ids) (recovery_count g ids) before after after' count told told' r r'
    (one_recovered g ids (length before))

pub repairs_once :
    (g : Group) (lost : ℕ) (helpers before after after' : List ℕ) (count told told' r r' : ℕ) → Repairs g lost helpers before after count told r
    → Repairs g lost helpers before after' count told' r' → (after ≡ after') × (r ≡ r') × (told ≡ told')
repairs_once g lost helpers before after after' count told told' r r' =
    solves_told_once (repair_refusal g lost helpers (length before)) (equations xors g lost helpers) (repair_count g lost helpers) before after after' count told told' r r'
    (one_repaired g lost helpers (length before))
