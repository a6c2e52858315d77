-- What the exported calls on shares return and leave.
use Rattle.std.specs.Prelude.{◌≡◌, List, ℕ, length}
use Rattle.group.specs.declared.Refusal.{Refusal}
use Rattle.group.specs.declared.Refusal.TheVariants.{Output, Unfinished}
use Rattle.group.specs.Answers.{refusal_number, Outcome}
use Rattle.layout.specs.Share.{ShareOf}
use Rattle.layout.specs.Judgment.{IsBeginning}
use Rattle.heads.specs.declared.Head.{Head}
use Rattle.heads.specs.Heads.{heads}
use Rattle.judging.specs.Judging.{Wrong, Judges, CanStandTo}
use Rattle.c_judgment.specs.Judgments.{seven, TellsJudgment}

-- judging: the judgment is told
pub record JudgesShare (bytes head : List ℕ) (r : ℕ) (after : List ℕ) : Type 0 where
  pub found : Outcome Head
  pub judges : Judges bytes found
  pub told : TellsJudgment head found r after

-- reading: the letters too; 7 to 12 before 6
pub data ReadsShare (bytes packets head : List ℕ) : ℕ → List ℕ → List ℕ → Type 0 where
  complete :
      (h : Head) (letters : List ℕ) → ShareOf heads h letters bytes → length packets ≡ length letters → length head ≡ 7
      → ReadsShare bytes packets head 0 letters (seven h)
  unfinished : IsBeginning heads bytes → ReadsShare bytes packets head (refusal_number Unfinished) packets head
  malformed : (r : Refusal) (q : ℕ) → Wrong bytes r q → ReadsShare bytes packets head (refusal_number r) packets head
  misfit :
      (h : Head) (letters : List ℕ) → ShareOf heads h letters bytes → (length packets ≡ length letters → length head ≡ 7 → ⊥)
      → ReadsShare bytes packets head (refusal_number Output) packets head

-- how many bytes can stand, from the front: nothing is refused
pub record TellsGoodBytes (bytes : List ℕ) (r count : ℕ) : Type 0 where
  pub returned : r ≡ 0
  pub stand : CanStandTo bytes count
