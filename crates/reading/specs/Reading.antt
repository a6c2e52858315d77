-- What reading promises, in the numbers of documents 01 and 02 (docs/SCHEME.md, 11).
use Rattle.std.specs.Prelude.{◌≡◌, List, ℕ, length}
use Rattle.group.specs.declared.Refusal.{Refusal}
use Rattle.group.specs.declared.Refusal.TheVariants.{Output, Unfinished}
use Rattle.group.specs.Answers.{refusal_number, Outcome}
use Rattle.layout.specs.Share.{ShareOf}
use Rattle.layout.specs.Judgment.{IsBeginning}
use Rattle.heads.specs.declared.Head.{Head}
use Rattle.judging.specs.Judging.{Wrong}
use Rattle.heads.specs.Heads.{heads}

-- What reading these bytes gives, and what the lent buffer then holds: 7 to 12 are decided before 6.
pub data Reads (xs before : List ℕ) : Outcome Head → List ℕ → Type 0 where
  complete :
      (h : Head) (letters : List ℕ) → ShareOf heads h letters xs → length before ≡ length letters → Reads xs before (Outcome.fine h) letters
  unfinished : IsBeginning heads xs → Reads xs before (Outcome.refused (refusal_number Unfinished)) before
  malformed : (r : Refusal) (q : ℕ) → Wrong xs r q → Reads xs before (Outcome.wrong (refusal_number r) q) before
  misfit :
      (h : Head) (letters : List ℕ) → ShareOf heads h letters xs → (length before ≡ length letters → ⊥)
      → Reads xs before (Outcome.refused (refusal_number Output)) before
