-- Each refusal's number in documents 01 and 02 (docs/SCHEME.md, 11), and what an answer's number and value are.
use Rattle.std.specs.Prelude.{◌≡◌, Bool, true, false, List, ℕ, zero, suc, length, Result, Ok, Err}
use Rattle.group.specs.declared.Refusal.{Refusal}
use Rattle.group.specs.declared.Refusal.TheVariants.{Numbers, Length, Ids, Order, Input, Output, Unfinished, Kind, HeadNumber, Filler, Total, AfterEnd, TooFew}

-- the numbers of the table "What comes back when a call is turned down", with 8 split as Ask 2 has it
abbrev pub refusal_number : Refusal → ℕ
refusal_number Numbers = 1
refusal_number Length = 2
refusal_number Ids = 3
refusal_number Order = 4
refusal_number Input = 5
refusal_number Output = 6
refusal_number Unfinished = 7
refusal_number Kind = 8
refusal_number HeadNumber = 9
refusal_number Filler = 10
refusal_number Total = 11
refusal_number AfterEnd = 12
refusal_number TooFew = 13

-- what a check finds: nothing, or a refusal
abbrev pub Check : Type 0
Check = Result (Unit {0}) Refusal

-- what a call answers: a number, or a refusal
abbrev pub Answer : Type 0
Answer = Result ℕ Refusal

-- a check's number: 0 where nothing is refused
abbrev pub check_number : Check → ℕ
check_number (Ok u) = 0
check_number (Err r) = refusal_number r

-- an answer's number: 0 where nothing is refused
abbrev pub number_of : Answer → ℕ
number_of (Ok v) = 0
number_of (Err r) = refusal_number r

-- an answer's value; a refusal carries 0
abbrev pub value_of : Answer → ℕ
value_of (Ok v) = v
value_of (Err r) = 0

-- What comes back in the papers' numbers, where an answer carries more than one number: its values; or the number of a refusal; or that number
-- with the place at which bytes are wrong.
pub data Outcome (A : Type 0) : Type 0 where
  fine : A → Outcome A
  refused : ℕ → Outcome A
  wrong : (number place : ℕ) → Outcome A

-- the number r where the test fails, and 0 where it holds
abbrev pub unless : Bool → ℕ → ℕ
unless true r = 0
unless false r = r

-- the first of two numbers that refuses: checks stand in the table's order, so the lowest that applies comes out
abbrev pub first : ℕ → ℕ → ℕ
first zero r = r
first (suc q) r = suc q

-- v where nothing is refused, and else w: what a call answers, and what a lent buffer holds
abbrev pub if_fine : {A : Type 0} → ℕ → A → A → A
if_fine zero v w = v
if_fine (suc r) v w = w

-- an answer with this refusal number (0: none) and, where nothing is refused, this value
pub record Answers (r : Answer) (refusal value : ℕ) : Type 0 where
  pub number : number_of r ≡ refusal
  pub valued : value_of r ≡ if_fine refusal value 0

-- A call that is refused by this number (0: not refused) and else answers this value: its buffer then holds what is right, and where it is refused what it held before.
pub record Called (refusal value : ℕ) (right before after : List ℕ) (r : Answer) : Type 0 where
  pub answer : Answers r refusal value
  pub holds : after ≡ if_fine refusal right before

-- A call that solves in place: what its buffer holds at exit gives what it held at entry, and the answer is the count of that; a refused call leaves it as it was.
pub record SolvesInPlace (refusal : ℕ) (gives : List ℕ → List ℕ) (count : List ℕ → ℕ) (before after : List ℕ) (r : Answer) : Type 0 where
  pub answer : Answers r refusal (count after)
  pub same_length : length after ≡ length before
  pub holds : if_fine refusal (gives after) after ≡ before
