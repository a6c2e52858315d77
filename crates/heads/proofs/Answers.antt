-- An answer that says yes or no to a statement.
use mathlib.Core.Path.{◌≡◌, refl}
use mathlib.Core.Bool.{true, false}
use mathlib.Core.Logic.{◌↔◌}
use Rattle.layout.proofs.Judgments.{not_both}

pub affirmed : {P : Type 0} → P → (true ≡ true) ↔ P
affirmed p = (λ e. p, λ q. refl)

pub refuted : {P : Type 0} → (P → ⊥) → (false ≡ true) ↔ P
refuted n = (λ e. absurd (not_both false e refl), λ p. absurd (n p))
