-- A read is a judgment told: what `share::read` finds where the head has seven numbers, and else what the bytes are judged to be.
use mathlib.Core.Path.{◌≡◌, refl}
use mathlib.Core.List.{List}
use Prim.Native.Nat.{ℕ}
use lib.ListN.{length}
use Rattle.group.specs.declared.Refusal.TheVariants.{Output, Unfinished}
use Rattle.group.specs.Answers.{refusal_number, Outcome}
use Rattle.heads.specs.declared.Head.{Head}
use Rattle.judging.specs.Judging.{Judges}
use Rattle.reading.specs.Reading.{Reads}
use Rattle.c_judgment.specs.Judgments.{TellsJudgment}
use Rattle.c_shares.specs.Shares.{JudgesShare, ReadsShare}

module _ {bytes packets head : List ℕ} where
  -- with room for the head
  pub told_read :
      {j : Outcome Head} {r : ℕ} {held after : List ℕ} → length head ≡ 7 → Reads bytes packets j held → TellsJudgment head j r after
      → ReadsShare bytes packets head r held after
  told_read e (Reads.complete h l s f) (TellsJudgment.complete _ _) = ReadsShare.complete h l s f e
  told_read e (Reads.complete h l s f) (TellsJudgment.misfit _ n) = absurd (n e)
  told_read e (Reads.unfinished b) (TellsJudgment.refused _) = ReadsShare.unfinished b
  told_read e (Reads.malformed r q w) (TellsJudgment.malformed _ _) = ReadsShare.malformed r q w
  told_read e (Reads.misfit h l s n) (TellsJudgment.refused _) = ReadsShare.misfit h l s (λ f _. n f)

  pub read_told :
      {r : ℕ} {held after : List ℕ} → length head ≡ 7 → ReadsShare bytes packets head r held after
      → (j : Outcome Head) × Reads bytes packets j held × TellsJudgment head j r after
  read_told e (ReadsShare.complete h l s f _) = (_, Reads.complete h l s f, TellsJudgment.complete h e)
  read_told e (ReadsShare.unfinished b) = (_, Reads.unfinished b, TellsJudgment.refused (refusal_number Unfinished))
  read_told e (ReadsShare.malformed r q w) = (_, Reads.malformed r q w, TellsJudgment.malformed (refusal_number r) q)
  read_told e (ReadsShare.misfit h l s n) = (_, Reads.misfit h l s (λ f. n f e), TellsJudgment.refused (refusal_number Output))

  -- and without: no letter is copied
  pub told_judged :
      {j : Outcome Head} {r : ℕ} {after : List ℕ} → (length head ≡ 7 → ⊥) → Judges bytes j → TellsJudgment head j r after
      → ReadsShare bytes packets head r packets after
  told_judged n (Judges.complete h l s) (TellsJudgment.complete _ e) = absurd (n e)
  told_judged n (Judges.complete h l s) (TellsJudgment.misfit _ _) = ReadsShare.misfit h l s (λ _ e. n e)
  told_judged n (Judges.unfinished b) (TellsJudgment.refused _) = ReadsShare.unfinished b
  told_judged n (Judges.malformed r q w) (TellsJudgment.malformed _ _) = ReadsShare.malformed r q w

  pub judged_told :
      {r : ℕ} {held after : List ℕ} → (length head ≡ 7 → ⊥) → ReadsShare bytes packets head r held after
      → JudgesShare bytes head r after × (held ≡ packets)
  judged_told n (ReadsShare.complete h l s f e) = absurd (n e)
  judged_told n (ReadsShare.unfinished b) = (record { found = _; judges = Judges.unfinished b; told = TellsJudgment.refused (refusal_number Unfinished) }, refl)
  judged_told n (ReadsShare.malformed r q w) = (record { found = _; judges = Judges.malformed r q w; told = TellsJudgment.malformed (refusal_number r) q }, refl)
  judged_told n (ReadsShare.misfit h l s _) = (record { found = _; judges = Judges.complete h l s; told = TellsJudgment.misfit h n }, refl)
