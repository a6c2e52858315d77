-- An answer is fixed by its number and its value.
use mathlib.Core.Path.{◌≡◌, refl, sym, ap, ◌∙◌}
use mathlib.Core.List.{List}
use Prim.Native.Nat.{ℕ, zero, suc}
use lib.ListN.{length}
use Rattle.group.specs.declared.Refusal.{Refusal}
use Rattle.group.specs.declared.Refusal.TheVariants.{Numbers, Length, Ids, Order, Input, Output, Unfinished, Kind, HeadNumber, Filler, Total, AfterEnd, TooFew}
use Rattle.std.specs.Prelude.{Ok, Err}
use Rattle.group.specs.Answers.{Answer, Check, refusal_number, check_number, number_of, value_of, if_fine, Answers, Called, SolvesInPlace}
use Rattle.group.proofs.Refusals.{never_zero}

-- the refusal of a number
pub refusal_of : ℕ → Refusal
refusal_of zero = Numbers
refusal_of (suc zero) = Numbers
refusal_of (suc (suc zero)) = Length
refusal_of (suc (suc (suc zero))) = Ids
refusal_of (suc (suc (suc (suc zero)))) = Order
refusal_of (suc (suc (suc (suc (suc zero))))) = Input
refusal_of (suc (suc (suc (suc (suc (suc zero)))))) = Output
refusal_of (suc (suc (suc (suc (suc (suc (suc zero))))))) = Unfinished
refusal_of (suc (suc (suc (suc (suc (suc (suc (suc zero)))))))) = Kind
refusal_of (suc (suc (suc (suc (suc (suc (suc (suc (suc zero))))))))) = HeadNumber
refusal_of (suc (suc (suc (suc (suc (suc (suc (suc (suc (suc zero)))))))))) = Filler
refusal_of (suc (suc (suc (suc (suc (suc (suc (suc (suc (suc (suc zero))))))))))) = Total
refusal_of (suc (suc (suc (suc (suc (suc (suc (suc (suc (suc (suc (suc zero)))))))))))) = AfterEnd
refusal_of (suc (suc (suc (suc (suc (suc (suc (suc (suc (suc (suc (suc (suc n))))))))))))) = TooFew

pub named_number : (r : Refusal) → refusal_of (refusal_number r) ≡ r
unfolding refusal_of
named_number Numbers = refl
named_number Length = refl
named_number Ids = refl
named_number Order = refl
named_number Input = refl
named_number Output = refl
named_number Unfinished = refl
named_number Kind = refl
named_number HeadNumber = refl
named_number Filler = refl
named_number Total = refl
named_number AfterEnd = refl
named_number TooFew = refl

-- no two refusals have one number
pub refusal_once : (a b : Refusal) → refusal_number a ≡ refusal_number b → a ≡ b
refusal_once a b e = sym (named_number a) ∙ ap refusal_of e ∙ named_number b

-- so two checks with one number are one
pub check_once : (a b : Check) → check_number a ≡ check_number b → a ≡ b
check_once (Ok a) (Ok b) e = refl
check_once (Ok a) (Err b) e = absurd (never_zero b (sym e))
check_once (Err a) (Ok b) e = absurd (never_zero a e)
check_once (Err a) (Err b) e = ap Err (refusal_once a b e)

-- and two answers with one number and one value
pub same_answer : (r s : Answer) → number_of r ≡ number_of s → value_of r ≡ value_of s → r ≡ s
same_answer (Ok v) (Ok w) e h = ap Ok h
same_answer (Ok v) (Err b) e h = absurd (never_zero b (sym e))
same_answer (Err a) (Ok w) e h = absurd (never_zero a e)
same_answer (Err a) (Err b) e h = ap Err (refusal_once a b e)

pub answer_once : (r s : Answer) (q v w : ℕ) → Answers r q v → Answers s q w → v ≡ w → r ≡ s
answer_once r s q v w a b e =
    same_answer r s (a.number ∙ sym b.number) (a.valued ∙ ap (λ m. if_fine q m 0) e ∙ sym b.valued)

-- a call that fills a buffer leaves one content and answers one thing
pub called_once :
    (q v : ℕ) (right before after after' : List ℕ) (r r' : Answer) → Called q v right before after r → Called q v right before after' r'
    → (after ≡ after') × (r ≡ r')
called_once q v right before after after' r r' c c' =
    (c.holds ∙ sym c'.holds, answer_once r r' q v v c.answer c'.answer refl)

-- what a buffer may hold at exit, by whether the call was refused
pub by_refusal :
    (q : ℕ) (f : List ℕ → List ℕ) (before after after' : List ℕ) → if_fine q (f after) after ≡ before → if_fine q (f after') after' ≡ before
    → (q ≡ 0 → f after ≡ f after' → after ≡ after') → after ≡ after'
by_refusal zero f before after after' e e' once = once refl (e ∙ sym e')
by_refusal (suc q) f before after after' e e' once = e ∙ sym e'

-- so a call that solves in place leaves one content and answers one thing, if no two contents of one length give the same
pub solves_once :
    (q : ℕ) (given : List ℕ → List ℕ) (worth : List ℕ → ℕ) (before after after' : List ℕ) (r r' : Answer)
    → (q ≡ 0 → (xs ys : List ℕ) → length xs ≡ length before → length ys ≡ length before → given xs ≡ given ys → xs ≡ ys)
    → SolvesInPlace q given worth before after r → SolvesInPlace q given worth before after' r' → (after ≡ after') × (r ≡ r')
solves_once q given worth before after after' r r' once c c' =
    let same = by_refusal q given before after after' c.holds c'.holds (λ z e. once z after after' c.same_length c'.same_length e) in
    (same, answer_once r r' q (worth after) (worth after') c.answer c'.answer (ap worth same))
