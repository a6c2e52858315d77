-- What each exported call's contract says allows one number returned and one content of each lent number and buffer.
use mathlib.Core.Path.{◌≡◌, sym, ap, ◌∙◌}
use mathlib.Core.List.{List}
use Prim.Native.Nat.{ℕ}
use lib.ListN.{length}
use Rattle.group.specs.Answers.{if_fine}
use Rattle.group.proofs.Outcomes.{by_refusal}
use Rattle.c_answers.specs.Exports.{Tells, Fills, SolvesTold}

-- lengths, places, counts
pub tells_once :
    (q v v' before after after' r r' : ℕ) → v ≡ v' → Tells q v before after r → Tells q v' before after' r' → (r ≡ r') × (after ≡ after')
tells_once q v v' before after after' r r' e c c' =
    (c.returned ∙ sym c'.returned, c.told ∙ ap (λ m. if_fine q m before) e ∙ sym c'.told)

-- encode, help, write
pub fills_once :
    (q : ℕ) (right before after after' : List ℕ) (r r' : ℕ) → Fills q right before after r → Fills q right before after' r'
    → (r ≡ r') × (after ≡ after')
fills_once q right before after after' r r' c c' = (c.returned ∙ sym c'.returned, c.holds ∙ sym c'.holds)

-- recover, repair: if no two contents of one length give the same
pub solves_told_once :
    (q : ℕ) (given : List ℕ → List ℕ) (worth : List ℕ → ℕ) (before after after' : List ℕ) (count told told' r r' : ℕ)
    → (q ≡ 0 → (xs ys : List ℕ) → length xs ≡ length before → length ys ≡ length before → given xs ≡ given ys → xs ≡ ys)
    → SolvesTold q given worth before after count told r → SolvesTold q given worth before after' count told' r'
    → (after ≡ after') × (r ≡ r') × (told ≡ told')
solves_told_once q given worth before after after' count told told' r r' once c c' =
    let same = by_refusal q given before after after' c.holds c'.holds (λ z e. once z after after' c.same_length c'.same_length e) in
    let told_once = tells_once q (worth after) (worth after') count told told' r r' (ap worth same) c.tells c'.tells in
    (same, told_once.0, told_once.1)
