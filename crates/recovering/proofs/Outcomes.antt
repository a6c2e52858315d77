-- What recovery's contract says allows one answer and one content of the buffer.
use mathlib.Core.Path.{◌≡◌, ◌∙◌}
use mathlib.Core.List.{List}
use Prim.Native.Nat.{ℕ}
use lib.ListN.{length}
use Rattle.letters.specs.Algebra.{bytes, xors}
use Rattle.group.specs.declared.Group.{Group}
use Rattle.group.specs.Answers.{Answer}
use Rattle.group.proofs.Outcomes.{solves_once}
use Rattle.matrix.specs.Pieces.{reading}
use Rattle.matrix.specs.Counts.{recovery_count}
use Rattle.recovering.specs.Calls.{recover_refusal, Recovered}
use Rattle.recovering.proofs.RecoverCalls.{recover_of}
use Rattle.matrix.proofs.Theorems.{reading_once}

-- no two contents of the buffer give the same pieces, since no two files read the same
pub one_recovered :
    (g : Group) (ids : List ℕ) (n : ℕ) → recover_refusal g ids n ≡ 0
    → (xs ys : List ℕ) → length xs ≡ n → length ys ≡ n → reading xors g xs ids ≡ reading xors g ys ids → xs ≡ ys
one_recovered g ids n z xs ys size size' =
    let w = recover_of g ids n z in
    reading_once bytes g ids w.0.chosen xs ys (size ∙ w.1) (size' ∙ w.1)

pub recovered_once :
    (g : Group) (ids before after after' : List ℕ) (r r' : Answer) → Recovered g ids before after r → Recovered g ids before after' r'
    → (after ≡ after') × (r ≡ r')
recovered_once g ids before after after' r r' =
    solves_once (recover_refusal g ids (length before)) (λ file. reading xors g file ids) (recovery_count g ids) before after after' r r'
    (one_recovered g ids (length before))
