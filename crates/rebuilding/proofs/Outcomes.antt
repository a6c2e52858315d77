-- What each public call's contract says allows one answer and one content of each buffer.
use mathlib.Core.Path.{◌≡◌, ◌∙◌}
use mathlib.Core.List.{List}
use Prim.Native.Nat.{ℕ}
use lib.ListN.{length}
use Rattle.letters.specs.Algebra.{bytes, xors}
use Rattle.group.specs.declared.Group.{Group}
use Rattle.group.specs.Answers.{Answer}
use Rattle.group.proofs.Outcomes.{solves_once}
use Rattle.matrix.specs.Repair.{equations}
use Rattle.matrix.specs.Counts.{repair_count}
use Rattle.rebuilding.specs.Calls.{repair_refusal, Repaired}
use Rattle.rebuilding.proofs.RepairCalls.{repair_of}
use Rattle.matrix.proofs.Rebuilt.{one_repair, same_buffer}

-- no two contents of the buffer give the same pieces, since the equations have one solution
pub one_repaired :
    (g : Group) (lost : ℕ) (helpers : List ℕ) (n : ℕ) → repair_refusal g lost helpers n ≡ 0
    → (xs ys : List ℕ) → length xs ≡ n → length ys ≡ n → equations xors g lost helpers xs ≡ equations xors g lost helpers ys → xs ≡ ys
one_repaired g lost helpers n z xs ys size size' =
    let w = repair_of g lost helpers n z in
    one_repair bytes g lost helpers w.0.chosen xs ys (size ∙ w.1 ∙ same_buffer g lost) (size' ∙ w.1 ∙ same_buffer g lost)

pub repaired_once :
    (g : Group) (lost : ℕ) (helpers before after after' : List ℕ) (r r' : Answer) → Repaired g lost helpers before after r
    → Repaired g lost helpers before after' r' → (after ≡ after') × (r ≡ r')
repaired_once g lost helpers before after after' r r' =
    solves_once (repair_refusal g lost helpers (length before)) (equations xors g lost helpers) (repair_count g lost helpers) before after after' r r'
    (one_repaired g lost helpers (length before))
