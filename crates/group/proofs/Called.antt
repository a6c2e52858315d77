-- What a refused call and one that is not refused leave.
use mathlib.Core.Path.{◌≡◌, refl, sym, ap₂, ◌∙◌}
use mathlib.Core.List.{List}
use Prim.Native.Nat.{ℕ, zero, suc, ◌≤◌}
use native.Mathlib.Omega.{arith}
use lib.Dec.{eqb}
use lib.ListN.{length}
use Rattle.group.specs.declared.Refusal.{Refusal}
use Rattle.std.specs.Prelude.{Ok, Err}
use Rattle.group.specs.Answers.{Answer, refusal_number, number_of, value_of, unless, first, Answers}
use Rattle.group.proofs.Refusals.{never_zero, refuses, gives, first_fine, if_refused, if_fine_lem}
use Rattle.group.specs.Answers.{Called, SolvesInPlace}

pub call_refused :
    (r : Refusal) (q v : ℕ) (right before : List ℕ) → refusal_number r ≡ q → Called q v right before before (Err r)
call_refused r zero v right before e = absurd (never_zero r e)
call_refused r (suc q) v right before e = record { answer = refuses r (suc q) v e; holds = refl }

pub call_fine :
    (q w v : ℕ) (right before after : List ℕ) → q ≡ 0 → w ≡ v → after ≡ right → Called q v right before after (Ok w)
call_fine zero w v right before after e h is = record { answer = gives zero w v refl h; holds = is }
call_fine (suc q) w v right before after e h is = absurd (omega arith)

-- where the checks before refuse nothing, the refusals on lengths are what comes out
pub lengths_after :
    (q a wa b wb A B : ℕ) → q ≡ 0 → wa ≡ A → wb ≡ B
    → first (unless (eqb a wa) 5) (unless (eqb b wb) 6) ≡ first q (first (unless (eqb a A) 5) (unless (eqb b B) 6))
lengths_after q a wa b wb A B z ea eb =
    ap₂ (λ m n. first (unless (eqb a m) 5) (unless (eqb b n) 6)) ea eb ∙ sym (first_fine q (first (unless (eqb a A) 5) (unless (eqb b B) 6)) z)

-- what a refused call that solves in place leaves, and one that isn't refused
pub solves_refused :
    (r : Refusal) (q : ℕ) (given : List ℕ → List ℕ) (worth : List ℕ → ℕ) (before : List ℕ) → refusal_number r ≡ q
    → SolvesInPlace q given worth before before (Err r)
solves_refused r q given worth before e =
    record {
      answer = refuses r q (worth before) e;
      same_length = refl;
      holds = if_refused q (given before) before (λ z. never_zero r (e ∙ z));
    }

pub solves_fine :
    (q count : ℕ) (given : List ℕ → List ℕ) (worth : List ℕ → ℕ) (before after : List ℕ) → q ≡ 0 → count ≡ worth after
    → length after ≡ length before → given after ≡ before → SolvesInPlace q given worth before after (Ok count)
solves_fine q count given worth before after e counted size is =
    record { answer = gives q count (worth after) e counted; same_length = size; holds = if_fine_lem q (given after) after e ∙ is }

-- an answer that is no refusal carries its value, and the call's own number is 0
pub fine_number : (r : Answer) (q v : ℕ) → Answers r q v → number_of r ≡ 0 → q ≡ 0
fine_number r q v a z = sym a.number ∙ z

pub fine_value : (r : Answer) (q v : ℕ) → Answers r q v → number_of r ≡ 0 → value_of r ≡ v
fine_value r q v a z = a.valued ∙ if_fine_lem q v 0 (fine_number r q v a z)

-- a call that is not refused leaves what is right
pub called_fine : (q v : ℕ) (right before after : List ℕ) (r : Answer) → Called q v right before after r → number_of r ≡ 0 → after ≡ right
called_fine q v right before after r c z = c.holds ∙ if_fine_lem q right before (fine_number r q v c.answer z)

-- an answer is at most what every value is that isn't refused
pub answer_at_most : (r : Answer) (refusal value most : ℕ) → Answers r refusal value → (refusal ≡ 0 → value ≤ most) → value_of r ≤ most
answer_at_most r zero value most a h = omega (arith, a.valued, h refl)
answer_at_most r (suc refusal) value most a h = omega (arith, a.valued)
