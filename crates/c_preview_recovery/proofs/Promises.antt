-- The promise about the exported recovery of previews, a line from what the export allows and a theorem about the code of previews.
use mathlib.Core.Path.{◌≡◌, sym, ap, ◌∙◌}
use mathlib.Core.List.{List}
use Prim.Native.Nat.{ℕ}
use lib.ListN.{length}
use Rattle.letters.specs.Algebra.{bytes, xors}
use Rattle.group.specs.declared.Group.{Group}
use Rattle.group.proofs.Refusals.{if_fine_lem}
use Rattle.preview_numbers.specs.Previews.{preview_file}
use Rattle.preview_product.specs.Preview.{preview_reading, preview_count}
use Rattle.preview_product.proofs.Theorems.{preview_once}
use Rattle.preview_recovering.specs.Calls.{preview_recover_refusal}
use Rattle.preview_recovering.proofs.RecoverCalls.{preview_recover_of}
use Rattle.c_preview_recovery.specs.Previews.{PreviewRecovers}

-- demand 3: what was read of a file is recovered to it, and the count that is told is that of the file
pub preview_read_then_recover :
    (g : Group) (ids file buffer after : List ℕ) (count told r : ℕ) → length file ≡ preview_file g → buffer ≡ preview_reading xors g file ids
    → PreviewRecovers g ids buffer after count told r → r ≡ 0 → (after ≡ file) × (told ≡ preview_count g ids file)
preview_read_then_recover g ids file buffer after count told r long read c z =
    let fine = sym c.tells.returned ∙ z in
    let w = preview_recover_of g ids (length buffer) fine in
    let same = preview_once bytes g ids w.0.readers after file (c.same_length ∙ w.1) long (sym (if_fine_lem _ (preview_reading xors g after ids) after fine) ∙ c.holds ∙ read) in
    (same, c.tells.told ∙ if_fine_lem (preview_recover_refusal g ids (length buffer)) (preview_count g ids after) count fine ∙ ap (preview_count g ids) same)
