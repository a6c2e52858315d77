-- Laws of refusal numbers: which test they tell of, which of two comes first, and what an answer then is.
use mathlib.Core.Path.{◌≡◌, refl, sym, ap, subst, ◌∙◌}
use mathlib.Core.Bool.{Bool, true, false, not}
use Prim.Native.Nat.{ℕ, zero, suc, ◌<◌}
use lib.Dec.{eqb}
use borrow.Author.Tests.{eqb-true, not-true, not-false}
use native.Mathlib.Omega.{arith}
use Rattle.letters.specs.Places.{both}
use Rattle.group.specs.declared.Refusal.{Refusal}
use Rattle.group.specs.declared.Refusal.TheVariants.{Numbers, Length, Ids, Order, Input, Output, Unfinished, Kind, HeadNumber, Filler, Total, AfterEnd, TooFew}
use Rattle.std.specs.Prelude.{Result, Ok, Err}
use Rattle.std.specs.Result.{IsErrAnd, result_unwrap_or}
use Rattle.std.proofs.lemmas.Result.{err_from_is_err_and}
use Rattle.group.specs.Answers.{Answer, Check, refusal_number, check_number, number_of, value_of, unless, first, if_fine, Answers}

-- no refusal has the number 0
pub never_zero : (r : Refusal) → refusal_number r ≡ 0 → ⊥
never_zero Numbers e = omega arith
never_zero Length e = omega arith
never_zero Ids e = omega arith
never_zero Order e = omega arith
never_zero Input e = omega arith
never_zero Output e = omega arith
never_zero Unfinished e = omega arith
never_zero Kind e = omega arith
never_zero HeadNumber e = omega arith
never_zero Filler e = omega arith
never_zero Total e = omega arith
never_zero AfterEnd e = omega arith
never_zero TooFew e = omega arith

-- and all have room in a byte
pub small_number : (r : Refusal) → refusal_number r < 256
small_number Numbers = omega arith
small_number Length = omega arith
small_number Ids = omega arith
small_number Order = omega arith
small_number Input = omega arith
small_number Output = omega arith
small_number Unfinished = omega arith
small_number Kind = omega arith
small_number HeadNumber = omega arith
small_number Filler = omega arith
small_number Total = omega arith
small_number AfterEnd = omega arith
small_number TooFew = omega arith

-- a test that is refused by no number holds, and one that holds is not refused
pub unless_none : (b : Bool) (r : ℕ) → (r ≡ 0 → ⊥) → unless b r ≡ 0 → b ≡ true
unless_none true r n e = refl
unless_none false r n e = absurd (n e)

-- where the first of two refuses, it is what comes out; where it doesn't, the second is
pub first_refused : (a b : ℕ) → (a ≡ 0 → ⊥) → first a b ≡ a
first_refused zero b n = absurd (n refl)
first_refused (suc a) b n = refl

pub first_fine : (a b : ℕ) → a ≡ 0 → first a b ≡ b
first_fine a b e = rw e

-- neither refuses where the first of them doesn't
pub first_none : (a b : ℕ) → first a b ≡ 0 → (a ≡ 0) × (b ≡ 0)
first_none zero b e = (refl, e)
first_none (suc a) b e = absurd (omega arith)

-- both tests hold where both do
pub both_true : (a b : Bool) → both a b ≡ true → (a ≡ true) × (b ≡ true)
both_true true b e = (refl, e)
both_true false b e = (e, absurd (false≢true e))
  where
    false≢true : false ≡ true → ⊥
    false≢true e = subst (λ (b : Bool). elim b as (λ _. Type 0) [ false ↦ Unit {0} | true ↦ ⊥ ]) e tt

-- an answer that refuses by the number that is wanted
pub refuses : (r : Refusal) (q v : ℕ) → refusal_number r ≡ q → Answers (Err r) q v
refuses r zero v e = absurd (never_zero r e)
refuses r (suc q) v e = record { number = e; valued = refl }

-- an answer that gives the wanted value where nothing refuses
pub gives : (q w v : ℕ) → q ≡ 0 → w ≡ v → Answers (Ok w) q v
gives zero w v e h = record { number = refl; valued = h }
gives (suc q) w v e h = absurd (omega arith)

-- a test made by a call, and what it is the test of
pub failed : (b test : Bool) → not b ≡ true → b ≡ test → test ≡ false
failed b test n e = sym e ∙ not-true b n

pub held : (b test : Bool) → not b ≡ false → b ≡ test → test ≡ true
held b test n e = sym e ∙ not-false b n

-- what a check found, and its number
pub stopped : (k : Check) (r : Refusal) (a : ℕ) → k ≡ Err r → check_number k ≡ a → refusal_number r ≡ a
stopped k r a e h = ap check_number (sym e) ∙ h

pub fine : (k : Check) (a : ℕ) → k ≡ (Ok tt) → check_number k ≡ a → a ≡ 0
fine k a e h = sym h ∙ ap check_number e

-- a refusal of the first of two checks is what comes out of both; where it is fine, the second's number is
pub passed_on :
    (k : Check) (r : Refusal) (a b : ℕ) → k ≡ Err r → check_number k ≡ a → refusal_number r ≡ first a b
passed_on k r a b e h =
    stopped k r a e h ∙ sym (first_refused a b (λ z. never_zero r (stopped k r a e h ∙ z)))

pub went_on : (k : Check) (a b n : ℕ) → k ≡ (Ok tt) → check_number k ≡ a → n ≡ b → n ≡ first a b
went_on k a b n e h q = q ∙ sym (first_fine a b (fine k a e h))

-- the second of two checks, where the first refuses nothing
pub skipped : (a b n : ℕ) → a ≡ 0 → n ≡ b → n ≡ first a b
skipped a b n z e = e ∙ sym (first_fine a b z)

-- where `?` hands on what is wrong, that comes back
pub handed_on : {A E : Type 0} (r : Result A E) (e : E) → IsErrAnd r (λ x. x ≡ e) → r ≡ Err e
handed_on r e h = let p = err_from_is_err_and r h in p.1 ∙ ap Err p.2

-- the library's word for an answer's value, and 0 for a refusal
pub unwrapped : (k : Answer) → result_unwrap_or k 0 ≡ value_of k
unwrapped (Ok v) = refl
unwrapped (Err r) = refl

-- what an answer that is told apart tells
pub answered_value : (k : Answer) (w q v : ℕ) → k ≡ Ok w → Answers k q v → (q ≡ 0) × (w ≡ v)
answered_value k w q v e a = go q (sym a.number ∙ ap number_of e) (ap value_of (sym e) ∙ a.valued)
  where
    go : (q : ℕ) → q ≡ 0 → w ≡ if_fine q v 0 → (q ≡ 0) × (w ≡ v)
    go zero z h = (refl, h)
    go (suc q) z h = absurd (omega arith)

pub answered_refusal : (k : Answer) (r : Refusal) (q v : ℕ) → k ≡ Err r → Answers k q v → refusal_number r ≡ q
answered_refusal k r q v e a = ap number_of (sym e) ∙ a.number

pub if_refused : {A : Type 0} (q : ℕ) (a b : A) → (q ≡ 0 → ⊥) → if_fine q a b ≡ b
if_refused zero a b n = absurd (n refl)
if_refused (suc q) a b n = refl

pub if_fine_lem : {A : Type 0} (q : ℕ) (a b : A) → q ≡ 0 → if_fine q a b ≡ a
if_fine_lem q a b e = rw e

-- two lengths that neither 5 nor 6 refuses are as wanted
pub exact_lengths : (a wa b wb : ℕ) → first (unless (eqb a wa) 5) (unless (eqb b wb) 6) ≡ 0 → (a ≡ wa) × (b ≡ wb)
exact_lengths a wa b wb e =
    let w = first_none (unless (eqb a wa) 5) (unless (eqb b wb) 6) e in (
      eqb-true a wa (unless_none (eqb a wa) 5 (λ q. omega arith) w.0),
      eqb-true b wb (unless_none (eqb b wb) 6 (λ q. omega arith) w.1),
    )
