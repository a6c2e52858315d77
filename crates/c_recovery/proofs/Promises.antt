-- The promise about the exported recovery, a line from what the export allows and a law of the product.
use mathlib.Core.Path.{◌≡◌, sym, ap, ◌∙◌}
use mathlib.Core.List.{List}
use Prim.Native.Nat.{ℕ}
use lib.ListN.{length}
use Rattle.letters.specs.Algebra.{bytes, xors}
use Rattle.group.specs.declared.Group.{Group}
use Rattle.lengths.specs.Lengths.{file_letters}
use Rattle.group.proofs.Refusals.{if_fine_lem}
use Rattle.matrix.specs.Pieces.{reading}
use Rattle.matrix.specs.Counts.{recovery_count}
use Rattle.matrix.proofs.Theorems.{reading_once}
use Rattle.recovering.specs.Calls.{recover_refusal}
use Rattle.recovering.proofs.RecoverCalls.{recover_of}
use Rattle.c_recovery.specs.Recovery.{Recovers}

-- demand 3: what was read of a file is recovered to it, and the count that is told is that of the file
pub read_then_recover :
    (g : Group) (ids file buffer after : List ℕ) (count told r : ℕ) → length file ≡ file_letters g → buffer ≡ reading xors g file ids
    → Recovers g ids buffer after count told r → r ≡ 0 → (after ≡ file) × (told ≡ recovery_count g ids file)
read_then_recover g ids file buffer after count told r long read c z =
    let fine = sym c.tells.returned ∙ z in
    let w = recover_of g ids (length buffer) fine in
    let same = reading_once bytes g ids w.0.chosen after file (c.same_length ∙ w.1) long (sym (if_fine_lem _ (reading xors g after ids) after fine) ∙ c.holds ∙ read) in
    (same, c.tells.told ∙ if_fine_lem (recover_refusal g ids (length buffer)) (recovery_count g ids after) count fine ∙ ap (recovery_count g ids) same)
