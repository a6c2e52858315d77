-- What the call for C promises allows one outcome: what it returns, and what both buffers then hold.
use mathlib.Core.Path.{◌≡◌, refl, sym, ap, ◌∙◌}
use mathlib.Core.List.{List}
use native.Mathlib.Omega.{arith}
use Prim.Native.Nat.{ℕ}
use lib.ListN.{length}
use Rattle.group.specs.declared.Group.{Group}
use Rattle.odd_report.specs.Standings.{nodes_where}
use Rattle.odd_checks.proofs.Refusing.{present_here}
use Rattle.odd_one.proofs.Outcomes.{shows_once}
use Rattle.c_odd.specs.Odd.{report_numbers, Names}
use Rattle.c_odd.proofs.Names.{behind_fine}

pub names_once :
    (g : Group) (ids handed before after after' report told told' : List ℕ) (r r' : ℕ) → Names g ids handed before after report told r
    → Names g ids handed before after' report told' r' → (after ≡ after') × (told ≡ told') × (r ≡ r')
names_once g ids handed before after after' report told told' r r' (Names.refused q is number kept same) (Names.refused q' is' number' kept' same') =
    (kept ∙ sym kept', same ∙ sym same', number ∙ sym is ∙ is' ∙ sym number')
names_once g ids handed before after after' report told told' r r' (Names.refused q is number kept same) (Names.told is' number' w') =
    absurd (omega arith)
names_once g ids handed before after after' report told told' r r' (Names.told is number w) (Names.refused q' is' number' kept' same') =
    absurd (omega arith)
names_once g ids handed before after after' report told told' r r' (Names.told is number w) (Names.told is' number' w') =
    let here = present_here g ids (length handed) (length before) (behind_fine g ids (length handed) (length before) (length report) is) handed refl in
    let one = shows_once g ids handed here w.standing w'.standing after after' w.tells w'.tells in
    (one.1, w.numbers ∙ ap (λ s. report_numbers (nodes_where ids s)) one.0 ∙ sym w'.numbers, number ∙ sym number')
