-- A judgment is told in one way: one number returned, and one content of the lent numbers.
use mathlib.Core.Path.{◌≡◌, refl, subst}
use mathlib.Core.List.{List}
use Prim.Native.Nat.{ℕ}
use Rattle.group.specs.Answers.{Outcome}
use Rattle.heads.specs.declared.Head.{Head}
use Rattle.c_judgment.specs.Judgments.{TellsJudgment}

pub judgment_told_once :
    {head after after' : List ℕ} {j j' : Outcome Head} {r r' : ℕ} → j ≡ j' → TellsJudgment head j r after → TellsJudgment head j' r' after'
    → (r ≡ r') × (after ≡ after')
judgment_told_once {head} {after} {r = r} e t t' = go (subst (λ j. TellsJudgment head j r after) e t) t'
  where
    go : {after after' : List ℕ} {j : Outcome Head} {r r' : ℕ} → TellsJudgment head j r after → TellsJudgment head j r' after' → (r ≡ r') × (after ≡ after')
    go (TellsJudgment.complete h e) (TellsJudgment.complete _ _) = (refl, refl)
    go (TellsJudgment.complete h e) (TellsJudgment.misfit _ n) = absurd (n e)
    go (TellsJudgment.misfit h n) (TellsJudgment.complete _ e) = absurd (n e)
    go (TellsJudgment.misfit h n) (TellsJudgment.misfit _ _) = (refl, refl)
    go (TellsJudgment.refused n) (TellsJudgment.refused _) = (refl, refl)
    go (TellsJudgment.malformed n q) (TellsJudgment.malformed _ _) = (refl, refl)
