-- How a judgment, a count and the share that is coming are told to C.
use mathlib.Core.Path.{◌≡◌, subst}
use mathlib.Core.List.{List}
use Prim.Native.Nat.{ℕ}
use lib.ListN.{length}
use Rattle.group.specs.declared.Refusal.{Refusal}
use Rattle.group.specs.Answers.{refusal_number, Outcome}
use Rattle.heads.specs.declared.Head.{Head}
use Rattle.arriving.specs.declared.Arriving.{Arriving}
use Rattle.std.specs.Prelude.{Result, Ok, Err}
use Rattle.judging.specs.declared.Fault.{Fault}
use Rattle.judging.specs.Judging.{fault_number}
use Rattle.arriving.specs.declared.Coming.{Coming}
use Rattle.arriving.specs.Calls.{JudgesState, GoodBytesOf, coming_of, Announces}
use Rattle.c_judgment.specs.Judgments.{seven, TellsJudgment}
use Rattle.c_state.specs.Words.{state_in}
use Rattle.c_arriving.specs.SoFar.{JudgesWords, CountsWords, TellsComing, AnnouncesWords}

module _ (words : List ℕ) (s : Arriving) (fits : length words ≡ 9) (is : s ≡ state_in words) where
  -- a judgment
  pub judged : (head after : List ℕ) (j : Outcome Head) (n : ℕ) → JudgesState s j → TellsJudgment head j n after → JudgesWords words head n after
  judged head after j n judges told = JudgesWords.judged fits j (subst (λ s. JudgesState s j) is judges) n after told

  -- the bytes that can stand
  pub counted : (bytes count : ℕ) → GoodBytesOf s count → CountsWords words bytes 0 count
  counted bytes count good = CountsWords.counted fits count (subst (λ s. GoodBytesOf s count) is good)

  -- the share that is coming
  pub announced :
      (head after : List ℕ) (bytes count : ℕ) (j : Outcome (Head × ℕ)) (n : ℕ) → Announces s j → TellsComing head bytes j n after count
      → AnnouncesWords words head bytes n after count
  announced head after bytes count j n announces told = AnnouncesWords.announced fits j (subst (λ s. Announces s j) is announces) n after count told

module _ (head : List ℕ) (bytes : ℕ) (j : Result Coming Fault) where
  pub told_misfit : (coming : Coming) → j ≡ Ok coming → (length head ≡ 7 → ⊥) → TellsComing head bytes (coming_of j) 6 head bytes
  told_misfit coming e ne = rw e (TellsComing.misfit coming.head coming.bytes ne)

  pub told_share :
      (full : List ℕ) (coming : Coming) → j ≡ Ok coming → length head ≡ 7 → full ≡ seven coming.head → TellsComing head bytes (coming_of j) 0 full coming.bytes
  told_share full coming e room put = rw (e, put) (TellsComing.known coming.head coming.bytes room)

  pub told_refused : (r : Refusal) (n : ℕ) → j ≡ Err (Fault.Refused r) → n ≡ refusal_number r → TellsComing head bytes (coming_of j) n head bytes
  told_refused r n e same = rw (e, same) (TellsComing.refused (refusal_number r))

  pub told_malformed : (r : Refusal) (q n : ℕ) → j ≡ Err (Fault.Malformed r q) → n ≡ refusal_number r → TellsComing head bytes (coming_of j) n head bytes
  told_malformed r q n e same = rw (e, same) (TellsComing.malformed (refusal_number r) q)

  pub told_fault : (f : Fault) (n : ℕ) → j ≡ Err f → n ≡ fault_number f → TellsComing head bytes (coming_of j) n head bytes
  told_fault (Fault.Refused r) n e same = told_refused r n e same
  told_fault (Fault.Malformed r q) n e same = told_malformed r q n e same
