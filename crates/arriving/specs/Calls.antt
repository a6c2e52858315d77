-- What the calls over a share that arrives promise, in the numbers of documents 01 and 02 (docs/SCHEME.md, 11 and 16).
use Rattle.std.specs.Prelude.{Result, Ok, Err, ◌≡◌, List, ◌++◌, ℕ, ◌≤◌, ◌<◌, length}
use Rattle.letters.specs.Lanes.{Bytes}
use Rattle.group.specs.declared.Refusal.TheVariants.{Unfinished, Kind}
use Rattle.group.specs.Answers.{refusal_number, Outcome}
use Rattle.layout.specs.Layout.{size_in}
use Rattle.layout.specs.Share.{ShareOf}
use Rattle.layout.specs.Judgment.{CanStand}
use Rattle.heads.specs.declared.Head.{Head}
use Rattle.heads.specs.Heads.{heads}
use Rattle.judging.specs.Judging.{Judges, CanStandTo}
use Rattle.arriving.specs.declared.Arriving.{Arriving}
use Rattle.judging.specs.declared.Fault.{Fault}
use Rattle.arriving.specs.declared.Coming.{Coming}
use Rattle.arriving.specs.States.{state_of, Leads}

-- Taking bytes: in the state of any bytes it leaves the state of these and the others after them, and a state to which no bytes lead stays.
pub record Takes (before : Arriving) (ys : List ℕ) (after : Arriving) : Type 0 where
  pub led : (xs : List ℕ) → Bytes xs → state_of xs ≡ before → state_of (xs ++ ys) ≡ after
  pub forged : (Leads before → ⊥) → after ≡ before

-- What judging a state gives: what the bytes are that lead there, and 8 at 0, a wrong kind, where none do.
pub data JudgesState (s : Arriving) : Outcome Head → Type 0 where
  led : (xs : List ℕ) → Bytes xs → state_of xs ≡ s → (r : Outcome Head) → Judges xs r → JudgesState s r
  forged : (Leads s → ⊥) → JudgesState s (Outcome.wrong (refusal_number Kind) 0)

-- How many bytes can stand, of those that lead to a state; 0 where none do.
pub data GoodBytesOf (s : Arriving) : ℕ → Type 0 where
  led : (xs : List ℕ) → Bytes xs → state_of xs ≡ s → (q : ℕ) → CanStandTo xs q → GoodBytesOf s q
  forged : (Leads s → ⊥) → GoodBytesOf s 0

-- what is coming in numbers: a share's head and its bytes; a refusal's number; or that number with the place
abbrev pub coming_of : Result Coming Fault → Outcome (Head × ℕ)
coming_of (Ok c) = Outcome.fine (c.head, c.bytes)
coming_of (Err (Fault.Refused r)) = Outcome.refused (refusal_number r)
coming_of (Err (Fault.Malformed r q)) = Outcome.wrong (refusal_number r) q

-- The head and the bytes of the share that is coming: of one that begins with the bytes so far, as soon as the head is in; wrong as the state is
-- judged.
pub data Announces (s : Arriving) : Outcome (Head × ℕ) → Type 0 where
  known :
      (xs : List ℕ) → Bytes xs → state_of xs ≡ s → size_in heads xs ≤ length xs
      → (h : Head) (ys letters : List ℕ) → ShareOf heads h letters (xs ++ ys) → Announces s (Outcome.fine (h, length (xs ++ ys)))
  early : (xs : List ℕ) → Bytes xs → state_of xs ≡ s → length xs < size_in heads xs → CanStand heads xs → Announces s (Outcome.refused (refusal_number Unfinished))
  malformed : (n q : ℕ) → JudgesState s (Outcome.wrong n q) → Announces s (Outcome.wrong n q)
