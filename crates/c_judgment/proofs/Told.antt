-- How a judgment is told to C, by its case.
use mathlib.Core.Path.{◌≡◌}
use mathlib.Core.List.{List}
use Prim.Native.Nat.{ℕ}
use lib.ListN.{length}
use Rattle.group.specs.declared.Refusal.{Refusal}
use Rattle.group.specs.Answers.{refusal_number}
use Rattle.heads.specs.declared.Head.{Head}
use Rattle.std.specs.Prelude.{Ok, Err}
use Rattle.judging.specs.declared.Fault.{Fault}
use Rattle.judging.specs.Judging.{Judgment, fault_number}
use Rattle.judging.specs.Judging.{outcome_of}
use Rattle.c_judgment.specs.Judgments.{seven, TellsJudgment}

module _ (head : List ℕ) (j : Judgment) where
  pub told_share : (h : Head) (after : List ℕ) → j ≡ Ok h → length head ≡ 7 → after ≡ seven h → TellsJudgment head (outcome_of j) 0 after
  told_share h after e fits put = rw e (rw put (TellsJudgment.complete h fits))

  pub told_misfit : (h : Head) → j ≡ Ok h → (length head ≡ 7 → ⊥) → TellsJudgment head (outcome_of j) 6 head
  told_misfit h e n = rw e (TellsJudgment.misfit h n)

  pub told_refused : (r : Refusal) (n : ℕ) → j ≡ Err (Fault.Refused r) → n ≡ refusal_number r → TellsJudgment head (outcome_of j) n head
  told_refused r n e same = rw e (rw same (TellsJudgment.refused (refusal_number r)))

  pub told_malformed : (r : Refusal) (q n : ℕ) → j ≡ Err (Fault.Malformed r q) → n ≡ refusal_number r → TellsJudgment head (outcome_of j) n head
  told_malformed r q n e same = rw e (rw same (TellsJudgment.malformed (refusal_number r) q))

  pub told_fault : (f : Fault) (n : ℕ) → j ≡ Err f → n ≡ fault_number f → TellsJudgment head (outcome_of j) n head
  told_fault (Fault.Refused r) n e same = told_refused r n e same
  told_fault (Fault.Malformed r q) n e same = told_malformed r q n e same
