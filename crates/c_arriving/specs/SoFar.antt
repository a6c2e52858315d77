-- What the exported questions about a state return and leave.
use Rattle.std.specs.Prelude.{◌≡◌, List, ℕ, length}
use Rattle.group.specs.declared.Refusal.TheVariants.{Output}
use Rattle.group.specs.Answers.{refusal_number, Outcome}
use Rattle.heads.specs.declared.Head.{Head}
use Rattle.arriving.specs.Calls.{JudgesState, GoodBytesOf, Announces}
use Rattle.c_judgment.specs.Judgments.{seven, TellsJudgment}
use Rattle.c_state.specs.Words.{state_in}

-- judging: the judgment of the state is told as any judgment is
pub data JudgesWords (words head : List ℕ) : ℕ → List ℕ → Type 0 where
  judged :
      length words ≡ 9 → (j : Outcome Head) → JudgesState (state_in words) j → (n : ℕ) (after : List ℕ) → TellsJudgment head j n after
      → JudgesWords words head n after
  unfit : (length words ≡ 9 → ⊥) → JudgesWords words head 5 head

-- counting the bytes that can stand
pub data CountsWords (words : List ℕ) (bytes : ℕ) : ℕ → ℕ → Type 0 where
  counted : length words ≡ 9 → (count : ℕ) → GoodBytesOf (state_in words) count → CountsWords words bytes 0 count
  unfit : (length words ≡ 9 → ⊥) → CountsWords words bytes 5 bytes

-- The share that is coming, told to C: 0, its head's numbers and its bytes; 6 comes last, and a refusal leaves all as it was.
pub data TellsComing (head : List ℕ) (bytes : ℕ) : Outcome (Head × ℕ) → ℕ → List ℕ → ℕ → Type 0 where
  known : (h : Head) (count : ℕ) → length head ≡ 7 → TellsComing head bytes (Outcome.fine (h, count)) 0 (seven h) count
  misfit : (h : Head) (count : ℕ) → (length head ≡ 7 → ⊥) → TellsComing head bytes (Outcome.fine (h, count)) (refusal_number Output) head bytes
  refused : (n : ℕ) → TellsComing head bytes (Outcome.refused n) n head bytes
  malformed : (n q : ℕ) → TellsComing head bytes (Outcome.wrong n q) n head bytes

-- the share that is coming
pub data AnnouncesWords (words head : List ℕ) (bytes : ℕ) : ℕ → List ℕ → ℕ → Type 0 where
  announced :
      length words ≡ 9 → (j : Outcome (Head × ℕ)) → Announces (state_in words) j → (n : ℕ) (after : List ℕ) (count : ℕ) → TellsComing head bytes j n after count
      → AnnouncesWords words head bytes n after count
  unfit : (length words ≡ 9 → ⊥) → AnnouncesWords words head bytes 5 head bytes
