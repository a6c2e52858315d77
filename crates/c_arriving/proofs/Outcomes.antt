-- What each exported call's contract says allows one number returned and one content of each lent number and buffer.
use mathlib.Core.Path.{◌≡◌, refl, ap}
use mathlib.Core.List.{List}
use Prim.Native.Nat.{ℕ}
use Rattle.arriving.proofs.Outcomes.{taken_once}
use Rattle.c_state.specs.Words.{state_in, nine}
use Rattle.c_arriving.specs.Arrivals.{StartsWords, TakesWords}

pub starts_once : {words after after' : List ℕ} {r r' : ℕ} → StartsWords words r after → StartsWords words r' after' → (r ≡ r') × (after ≡ after')
starts_once (StartsWords.started l) (StartsWords.started l') = (refl, refl)
starts_once (StartsWords.started l) (StartsWords.unfit n) = absurd (n l)
starts_once (StartsWords.unfit n) (StartsWords.started l) = absurd (n l)
starts_once (StartsWords.unfit n) (StartsWords.unfit n') = (refl, refl)

pub takes_once :
    {words bytes after after' : List ℕ} {r r' : ℕ} → TakesWords words bytes r after → TakesWords words bytes r' after' → (r ≡ r') × (after ≡ after')
takes_once {words} {bytes} (TakesWords.taken l s t) (TakesWords.taken l' s' t') = (refl, ap nine (taken_once (state_in words) bytes s s' t t'))
takes_once (TakesWords.taken l s t) (TakesWords.unfit n) = absurd (n l)
takes_once (TakesWords.unfit n) (TakesWords.taken l s t) = absurd (n l)
takes_once (TakesWords.unfit n) (TakesWords.unfit n') = (refl, refl)
