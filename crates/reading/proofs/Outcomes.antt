-- The contract of `read` allows one outcome: a share's bytes tell head and letters.
use mathlib.Core.Path.{◌≡◌, refl, ap, ap₂, ◌∙◌}
use mathlib.Core.List.{List}
use Prim.Native.Nat.{ℕ}
use lib.ListN.{length}
use Rattle.group.specs.Answers.{refusal_number, Outcome}
use Rattle.layout.proofs.Judgments.{not_share_and_beginning, one_head, one_letters, offends_neither}
use Rattle.heads.specs.declared.Head.{Head}
use Rattle.judging.specs.Judging.{Judgment}
use Rattle.reading.specs.Reading.{Reads}
use Rattle.heads.specs.Heads.{heads}
use Rattle.heads.proofs.HeadLaws.{lawful}
use Rattle.judging.specs.Judging.{outcome_of}
use Rattle.judging.proofs.Outcomes.{same_wrong, outcome_once}

-- what reading gives and leaves
module _ {xs before : List ℕ} where
  pub same_reading : {r s : Outcome Head} {after after' : List ℕ} → Reads xs before r after → Reads xs before s after' → (r ≡ s) × (after ≡ after')
  same_reading (Reads.complete h l s e) (Reads.complete h' l' s' e') =
      (ap Outcome.fine (one_head heads lawful h h' l l' xs s s'), one_letters heads lawful h h' l l' xs s s')
  same_reading (Reads.complete h l s e) (Reads.unfinished b) = absurd (not_share_and_beginning heads lawful xs (h, l, s) b)
  same_reading (Reads.complete h l s e) (Reads.malformed r q w) = absurd ((offends_neither heads lawful xs q w.offends).0 (h, l, s))
  same_reading (Reads.complete h l s e) (Reads.misfit h' l' s' n) = absurd (n (e ∙ ap length (one_letters heads lawful h h' l l' xs s s')))
  same_reading (Reads.unfinished b) (Reads.complete h l s e) = absurd (not_share_and_beginning heads lawful xs (h, l, s) b)
  same_reading (Reads.unfinished b) (Reads.unfinished b') = (refl, refl)
  same_reading (Reads.unfinished b) (Reads.malformed r q w) = absurd ((offends_neither heads lawful xs q w.offends).1 b)
  same_reading (Reads.unfinished b) (Reads.misfit h l s n) = absurd (not_share_and_beginning heads lawful xs (h, l, s) b)
  same_reading (Reads.malformed r q w) (Reads.complete h l s e) = absurd ((offends_neither heads lawful xs q w.offends).0 (h, l, s))
  same_reading (Reads.malformed r q w) (Reads.unfinished b) = absurd ((offends_neither heads lawful xs q w.offends).1 b)
  same_reading (Reads.malformed r q w) (Reads.malformed r' q' w') =
      let e = same_wrong xs r r' q q' w w' in
      (ap₂ (λ r q. Outcome.wrong (refusal_number r) q) e.0 e.1, refl)
  same_reading (Reads.malformed r q w) (Reads.misfit h l s n) = absurd ((offends_neither heads lawful xs q w.offends).0 (h, l, s))
  same_reading (Reads.misfit h l s n) (Reads.complete h' l' s' e) = absurd (n (e ∙ ap length (one_letters heads lawful h' h l' l xs s' s)))
  same_reading (Reads.misfit h l s n) (Reads.unfinished b) = absurd (not_share_and_beginning heads lawful xs (h, l, s) b)
  same_reading (Reads.misfit h l s n) (Reads.malformed r q w) = absurd ((offends_neither heads lawful xs q w.offends).0 (h, l, s))
  same_reading (Reads.misfit h l s n) (Reads.misfit h' l' s' n') = (refl, refl)

-- `read` has one answer and leaves one content in the buffer.
pub one_reading :
    (xs before after after' : List ℕ) (r s : Judgment) → Reads xs before (outcome_of r) after → Reads xs before (outcome_of s) after'
    → (r ≡ s) × (after ≡ after')
one_reading xs before after after' r s p q = let w = same_reading p q in (outcome_once r s w.0, w.1)
