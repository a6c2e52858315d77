-- The promise about the exported encoding, a line from what the export allows and a law of the product.
use mathlib.Core.Path.{◌≡◌, sym, ap₂, ◌∙◌}
use mathlib.Core.List.{List}
use Prim.Native.Nat.{ℕ}
use lib.ListN.{length}
use Rattle.letters.specs.Algebra.{xors}
use Rattle.letters.specs.Runs.{xored}
use Rattle.group.specs.declared.Group.{Group}
use Rattle.matrix.specs.Matrix.{packets}
use Rattle.matrix.proofs.Linear.{packets_linear}
use Rattle.c_answers.specs.Exports.{Fills}
use Rattle.c_answers.proofs.Told.{filled}

-- demand 3: the packets of an XOR, through three calls
pub encode_xored :
    (g : Group) (node : ℕ) (file file' room room' room'' held held' held'' : List ℕ) (q q' q'' r r' r'' : ℕ) → length file ≡ length file'
    → Fills q (packets xors g file node) room held r → Fills q' (packets xors g file' node) room' held' r'
    → Fills q'' (packets xors g (xored xors file file') node) room'' held'' r'' → r ≡ 0 → r' ≡ 0 → r'' ≡ 0 → held'' ≡ xored xors held held'
encode_xored g node file file' room room' room'' held held' held'' q q' q'' r r' r'' same f f' f'' z z' z'' =
    filled q'' _ room'' held'' r'' f'' z''
    ∙ packets_linear xors g file file' same node
    ∙ ap₂ (xored xors) (sym (filled q _ room held r f z)) (sym (filled q' _ room' held' r' f' z'))
