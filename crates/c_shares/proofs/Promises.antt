-- The promises about the exports for C, each a line from the promise about the call behind it (`store/proofs/Promises.antt`) or from what the export allows.
use mathlib.Core.Path.{◌≡◌}
use mathlib.Core.List.{List}
use Prim.Native.Nat.{ℕ, ◌<◌}
use lib.ListN.{length, take}
use Rattle.group.specs.declared.Refusal.TheVariants.{Unfinished}
use Rattle.group.specs.Answers.{refusal_number}
use Rattle.layout.specs.Judgment.{IsShare}
use Rattle.layout.proofs.Judgments.{cut_is_beginning}
use Rattle.heads.specs.Heads.{heads}
use Rattle.heads.proofs.HeadLaws.{lawful}
use Rattle.judging.specs.Judging.{Judges}
use Rattle.c_judgment.specs.Judgments.{TellsJudgment}
use Rattle.c_shares.specs.Shares.{JudgesShare, ReadsShare}
use Rattle.c_shares.proofs.Outcomes.{judges_share_once, reads_share_once}

-- demand 1: a share cut anywhere is 7 for both calls, and nothing lent changes
module _ (share : List ℕ) (is : IsShare heads share) (m : ℕ) (cut : m < length share) where
  pub cut_judged : (head after : List ℕ) (r : ℕ) → JudgesShare (take m share) head r after → (r ≡ 7) × (after ≡ head)
  cut_judged head after r j =
      judges_share_once j
      (record { found = _; judges = Judges.unfinished (cut_is_beginning heads lawful share m is cut); told = TellsJudgment.refused (refusal_number Unfinished) })

  pub cut_read :
      (room head held after : List ℕ) (r : ℕ) → ReadsShare (take m share) room head r held after → (r ≡ 7) × (held ≡ room) × (after ≡ head)
  cut_read room head held after r s = reads_share_once s (ReadsShare.unfinished (cut_is_beginning heads lawful share m is cut))
