-- How an answer is told to C: its number is returned, and its value stands where it was asked for.
use Rattle.std.specs.Prelude.{Ok, Err}
use mathlib.Core.Path.{◌≡◌, refl, sym, ap, ◌∙◌}
use mathlib.Core.List.{List}
use Prim.Native.Nat.{ℕ, zero, suc}
use Rattle.group.specs.declared.Refusal.{Refusal}
use Rattle.group.specs.Answers.{Answer}
use Rattle.group.specs.Answers.{Called, SolvesInPlace, number_of, value_of, if_fine, Answers}
use Rattle.group.proofs.Refusals.{never_zero, if_refused, if_fine_lem}
use Rattle.c_answers.specs.Exports.{Tells, Fills, SolvesTold}

-- a value stands in the lent number
pub value_told : (a : Answer) (v m : ℕ) → a ≡ Ok v → v ≡ if_fine (number_of a) (value_of a) m
value_told a v m e = rw e refl

-- a refusal leaves the lent number as it was
pub kept : (a : Answer) (r : Refusal) (m : ℕ) → a ≡ Err r → m ≡ if_fine (number_of a) (value_of a) m
kept a r m e = sym (if_refused (number_of a) (value_of a) m (λ z. never_zero r (ap number_of (sym e) ∙ z)))

once : (q v m : ℕ) → if_fine q (if_fine q v 0) m ≡ if_fine q v m
once zero v m = refl
once (suc q) v m = refl

pub tells_of :
    (a : Answer) (q v before after r : ℕ) → Answers a q v → r ≡ number_of a → after ≡ if_fine (number_of a) (value_of a) before → Tells q v before after r
tells_of a q v before after r answers e h =
    record {
      returned = e ∙ answers.number;
      told = h ∙ ap (λ m. if_fine m (value_of a) before) answers.number ∙ ap (λ m. if_fine q m before) answers.valued ∙ once q v before;
    }

pub fills_of :
    (a : Answer) (q v : ℕ) (right before after : List ℕ) (r : ℕ) → Called q v right before after a → r ≡ number_of a → Fills q right before after r
fills_of a q v right before after r done e = record { returned = e ∙ done.answer.number; holds = done.holds }

pub solves_told_of :
    (a : Answer) (q : ℕ) (given : List ℕ → List ℕ) (worth : List ℕ → ℕ) (before after : List ℕ) (count count' r : ℕ)
    → SolvesInPlace q given worth before after a → r ≡ number_of a → count' ≡ if_fine (number_of a) (value_of a) count
    → SolvesTold q given worth before after count count' r
solves_told_of a q given worth before after count count' r done e h =
    record {
      tells = tells_of a q (worth after) count count' r done.answer e h;
      same_length = done.same_length;
      holds = done.holds;
    }

-- an export that fills a buffer and returns 0 leaves what is right
pub filled : (q : ℕ) (right before after : List ℕ) (r : ℕ) → Fills q right before after r → r ≡ 0 → after ≡ right
filled q right before after r f z = f.holds ∙ if_fine_lem q right before (sym f.returned ∙ z)
