-- What the exported recovery's contract says allows one number returned, one count told and one content of the buffer: no two files of one length have one reading.
use mathlib.Core.Path.{◌≡◌}
use mathlib.Core.List.{List}
use Prim.Native.Nat.{ℕ}
use lib.ListN.{length}
use Rattle.letters.specs.Algebra.{xors}
use Rattle.group.specs.declared.Group.{Group}
use Rattle.preview_product.specs.Preview.{preview_reading, preview_count}
use Rattle.preview_recovering.specs.Calls.{preview_recover_refusal}
use Rattle.preview_recovering.proofs.Outcomes.{one_preview_recovered}
use Rattle.c_answers.proofs.Outcomes.{solves_told_once}
use Rattle.c_preview_recovery.specs.Previews.{PreviewRecovers}

pub preview_recovers_once :
    (g : Group) (ids before after after' : List ℕ) (count told told' r r' : ℕ) → PreviewRecovers g ids before after count told r
    → PreviewRecovers g ids before after' count told' r' → (after ≡ after') × (r ≡ r') × (told ≡ told')
preview_recovers_once g ids before after after' count told told' r r' =
    solves_told_once (preview_recover_refusal g ids (length before)) (λ file. preview_reading xors g file ids) (preview_count g ids) before after after' count told told' r r'
    (one_preview_recovered g ids (length before))
