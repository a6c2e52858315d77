-- What recovery's contract says allows one answer and one content of the buffer: no two files of one length have one reading.
use mathlib.Core.Path.{◌≡◌, ◌∙◌}
use mathlib.Core.List.{List}
use Prim.Native.Nat.{ℕ}
use lib.ListN.{length}
use Rattle.letters.specs.Algebra.{bytes, xors}
use Rattle.group.specs.declared.Group.{Group}
use Rattle.group.specs.Answers.{Answer}
use Rattle.group.proofs.Outcomes.{solves_once}
use Rattle.preview_product.specs.Preview.{preview_reading, preview_count}
use Rattle.preview_product.proofs.Theorems.{preview_once}
use Rattle.preview_recovering.specs.Calls.{preview_recover_refusal, PreviewRecovered}
use Rattle.preview_recovering.proofs.RecoverCalls.{preview_recover_of}

pub one_preview_recovered :
    (g : Group) (ids : List ℕ) (n : ℕ) → preview_recover_refusal g ids n ≡ 0
    → (xs ys : List ℕ) → length xs ≡ n → length ys ≡ n → preview_reading xors g xs ids ≡ preview_reading xors g ys ids → xs ≡ ys
one_preview_recovered g ids n z xs ys size size' =
    let w = preview_recover_of g ids n z in
    preview_once bytes g ids w.0.readers xs ys (size ∙ w.1) (size' ∙ w.1)

pub preview_recovered_once :
    (g : Group) (ids before after after' : List ℕ) (r r' : Answer) → PreviewRecovered g ids before after r
    → PreviewRecovered g ids before after' r' → (after ≡ after') × (r ≡ r')
preview_recovered_once g ids before after after' r r' =
    solves_once (preview_recover_refusal g ids (length before)) (λ file. preview_reading xors g file ids) (preview_count g ids) before after after' r r'
    (one_preview_recovered g ids (length before))
