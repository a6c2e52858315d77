-- What judging bytes promises, in the numbers of documents 01 and 02 (docs/SCHEME.md, 9 and 11).
use Rattle.std.specs.Prelude.{Result, Ok, Err, List, ◌++◌, ℕ, suc, ◌+◌, ◌*◌, ◌≤◌, ◌<◌, length, take}
use Rattle.group.specs.declared.Refusal.{Refusal}
use Rattle.group.specs.declared.Refusal.TheVariants.{Unfinished, Kind, HeadNumber, Filler, Total, AfterEnd}
use Rattle.group.specs.Answers.{refusal_number, Outcome}
use Rattle.records.specs.Records.{block_letters, block_size, total_bytes, blocks, size_for}
use Rattle.layout.specs.Share.{ShareOf}
use Rattle.layout.specs.Judgment.{IsShareOf, IsBeginning, CanStand, Offends}
use Rattle.heads.specs.declared.Head.{Head}
use Rattle.judging.specs.declared.Fault.{Fault}
use Rattle.heads.specs.Heads.{heads}

-- what judging answers: the head of a share, or why the bytes are none
abbrev pub Judgment : Type 0
Judgment = Result Head Fault

-- the number of what bytes are that are no share
abbrev pub fault_number : Fault → ℕ
fault_number (Fault.Refused r) = refusal_number r
fault_number (Fault.Malformed r q) = refusal_number r

-- a judgment in numbers: a share's head; a refusal's number; or that number with the index of the first byte that can't stand
abbrev pub outcome_of : Judgment → Outcome Head
outcome_of (Ok h) = Outcome.fine h
outcome_of (Err (Fault.Refused r)) = Outcome.refused (refusal_number r)
outcome_of (Err (Fault.Malformed r q)) = Outcome.wrong (refusal_number r) q

-- Where the byte at index q would stand in a share of so many letters whose head has this size, and how one is refused that can't stand there.
pub data WouldStand (front letters : ℕ) : ℕ → Refusal → Type 0 where
  -- 8: the kind of a record: of the head, of a block, or of the end, which follows the last block
  head_kind : WouldStand front letters 0 Kind
  kind : (r : ℕ) → r ≤ blocks letters → WouldStand front letters (front + r * block_size) Kind
  -- 9: a number of the head
  head_number : (q : ℕ) → 1 ≤ q → q < front → WouldStand front letters q HeadNumber
  -- 10: the fill of the last block, past the last letter
  filler :
      (r j : ℕ) → r < blocks letters → j < block_letters → letters ≤ r * block_letters + j
      → WouldStand front letters (front + r * block_size + suc j) Filler
  -- 11: the total, in the end
  total : (j : ℕ) → j < total_bytes → WouldStand front letters (front + blocks letters * block_size + suc j) Total
  -- 12: after the end
  after_end : (q : ℕ) → size_for front letters ≤ q → WouldStand front letters q AfterEnd

-- The byte at index q is the first that no share has there after the bytes before it. These begin a share with some head, and where the byte would
-- stand in it decides how it is refused.
pub record Wrong (xs : List ℕ) (r : Refusal) (q : ℕ) : Type 0 where
  pub offends : Offends heads xs q
  pub head : Head
  pub rest : List ℕ
  pub begins : IsShareOf heads head (take q xs ++ rest)
  pub place : WouldStand (length (heads.head_record head)) (heads.total head) q r

-- What judging these bytes gives.
pub data Judges (xs : List ℕ) : Outcome Head → Type 0 where
  complete : (h : Head) (letters : List ℕ) → ShareOf heads h letters xs → Judges xs (Outcome.fine h)
  unfinished : IsBeginning heads xs → Judges xs (Outcome.refused (refusal_number Unfinished))
  malformed : (r : Refusal) (q : ℕ) → Wrong xs r q → Judges xs (Outcome.wrong (refusal_number r) q)

-- So many bytes from the front can stand: a share can have them first, and the next, if there is one, is the first byte that no share has there after
-- those before it.
pub record CanStandTo (xs : List ℕ) (q : ℕ) : Type 0 where
  pub within : q ≤ length xs
  pub before : CanStand heads (take q xs)
  pub next : q < length xs → Offends heads xs q
