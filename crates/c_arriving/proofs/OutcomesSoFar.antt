-- What each exported call's contract says allows one number returned and one content of each lent number and buffer.
use mathlib.Core.Path.{◌≡◌, refl, subst}
use mathlib.Core.List.{List}
use Prim.Native.Nat.{ℕ}
use Rattle.group.specs.Answers.{Outcome}
use Rattle.heads.specs.declared.Head.{Head}
use Rattle.arriving.proofs.Outcomes.{same_judgment, good_once, same_coming}
use Rattle.c_judgment.proofs.Outcomes.{judgment_told_once}
use Rattle.c_state.specs.Words.{state_in}
use Rattle.c_arriving.specs.SoFar.{JudgesWords, CountsWords, TellsComing, AnnouncesWords}

pub judges_once :
    {words head after after' : List ℕ} {r r' : ℕ} → JudgesWords words head r after → JudgesWords words head r' after' → (r ≡ r') × (after ≡ after')
judges_once {words} (JudgesWords.judged l j s n a t) (JudgesWords.judged l' j' s' n' a' t') = judgment_told_once (same_judgment (state_in words) s s') t t'
judges_once (JudgesWords.judged l j s n a t) (JudgesWords.unfit u) = absurd (u l)
judges_once (JudgesWords.unfit u) (JudgesWords.judged l j s n a t) = absurd (u l)
judges_once (JudgesWords.unfit u) (JudgesWords.unfit u') = (refl, refl)

pub counts_once : {words : List ℕ} {bytes r r' count count' : ℕ} → CountsWords words bytes r count → CountsWords words bytes r' count' → (r ≡ r') × (count ≡ count')
counts_once {words} (CountsWords.counted l c g) (CountsWords.counted l' c' g') = (refl, good_once (state_in words) g g')
counts_once (CountsWords.counted l c g) (CountsWords.unfit u) = absurd (u l)
counts_once (CountsWords.unfit u) (CountsWords.counted l c g) = absurd (u l)
counts_once (CountsWords.unfit u) (CountsWords.unfit u') = (refl, refl)

-- the share that is coming is told in one way
coming_told :
    {head after after' : List ℕ} {bytes count count' : ℕ} {j : Outcome (Head × ℕ)} {r r' : ℕ} → TellsComing head bytes j r after count
    → TellsComing head bytes j r' after' count' → (r ≡ r') × (after ≡ after') × (count ≡ count')
coming_told (TellsComing.known h c e) (TellsComing.known _ _ _) = (refl, refl, refl)
coming_told (TellsComing.known h c e) (TellsComing.misfit _ _ n) = absurd (n e)
coming_told (TellsComing.misfit h c n) (TellsComing.known _ _ e) = absurd (n e)
coming_told (TellsComing.misfit h c n) (TellsComing.misfit _ _ _) = (refl, refl, refl)
coming_told (TellsComing.refused n) (TellsComing.refused _) = (refl, refl, refl)
coming_told (TellsComing.malformed n q) (TellsComing.malformed _ _) = (refl, refl, refl)

pub announces_once :
    {words head after after' : List ℕ} {bytes count count' r r' : ℕ} → AnnouncesWords words head bytes r after count
    → AnnouncesWords words head bytes r' after' count' → (r ≡ r') × (after ≡ after') × (count ≡ count')
announces_once {words} {head} {after} {bytes = bytes} {count = count} {r = r} (AnnouncesWords.announced l j a n _ c t) (AnnouncesWords.announced l' j' a' n' _ c' t') =
    coming_told (subst (λ j. TellsComing head bytes j r after count) (same_coming (state_in words) a a') t) t'
announces_once (AnnouncesWords.announced l j a n _ c t) (AnnouncesWords.unfit u) = absurd (u l)
announces_once (AnnouncesWords.unfit u) (AnnouncesWords.announced l j a n _ c t) = absurd (u l)
announces_once (AnnouncesWords.unfit u) (AnnouncesWords.unfit u') = (refl, refl, refl)
