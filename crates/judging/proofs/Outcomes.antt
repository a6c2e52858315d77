-- One judgment holds of any bytes, and it is one of the three.
use mathlib.Core.Path.{◌≡◌, refl, sym, ap, ap₂, ◌∙◌}
use mathlib.Core.List.{List}
use mathlib.Core.Logic.{◌↔◌, ⊎_elim}
use Prim.Native.Nat.{ℕ}
use Rattle.letters.specs.Lanes.{Bytes}
use Rattle.group.specs.declared.Refusal.{Refusal}
use Rattle.group.specs.Answers.{refusal_number, Outcome}
use Rattle.group.proofs.Outcomes.{refusal_of, named_number}
use Rattle.layout.specs.Layout.{size_in, total_in}
use Rattle.layout.specs.Judgment.{IsNeither}
use Rattle.layout.proofs.Judgments.{not_share_and_beginning, one_head, one_of_three, one_place, offends_neither, neither_offends}
use Rattle.heads.specs.declared.Head.{Head}
use Rattle.heads.specs.Heads.{heads}
use Rattle.heads.proofs.HeadLaws.{lawful}
use Rattle.std.specs.Prelude.{Ok, Err}
use Rattle.judging.specs.declared.Fault.{Fault}
use Rattle.judging.specs.Judging.{Judgment}
use Rattle.judging.specs.Judging.{outcome_of, Wrong, Judges}
use Rattle.refusing.specs.Steps.Refusing.{refusal_at}
use Rattle.judging.proofs.WouldStand.{wrong_at, wrong_once}

-- one byte is the first wrong one, and it is refused in one way
pub same_wrong : (xs : List ℕ) (r r' : Refusal) (q q' : ℕ) → Wrong xs r q → Wrong xs r' q' → (r ≡ r') × (q ≡ q')
same_wrong xs r r' q q' w w' =
    let e = one_place heads lawful xs q q' w.offends w'.offends in
    (wrong_once xs r q w ∙ ap (refusal_at (size_in heads xs) (total_in heads xs)) e ∙ sym (wrong_once xs r' q' w'), e)

-- what judging gives
pub same_judging : {xs : List ℕ} {r s : Outcome Head} → Judges xs r → Judges xs s → r ≡ s
same_judging {xs} (Judges.complete h letters s) (Judges.complete h' letters' s') = ap Outcome.fine (one_head heads lawful h h' letters letters' xs s s')
same_judging {xs} (Judges.complete h letters s) (Judges.unfinished b) = absurd (not_share_and_beginning heads lawful xs (h, letters, s) b)
same_judging {xs} (Judges.complete h letters s) (Judges.malformed r q w) = absurd ((offends_neither heads lawful xs q w.offends).0 (h, letters, s))
same_judging {xs} (Judges.unfinished b) (Judges.complete h letters s) = absurd (not_share_and_beginning heads lawful xs (h, letters, s) b)
same_judging (Judges.unfinished b) (Judges.unfinished b') = refl
same_judging {xs} (Judges.unfinished b) (Judges.malformed r q w) = absurd ((offends_neither heads lawful xs q w.offends).1 b)
same_judging {xs} (Judges.malformed r q w) (Judges.complete h letters s) = absurd ((offends_neither heads lawful xs q w.offends).0 (h, letters, s))
same_judging {xs} (Judges.malformed r q w) (Judges.unfinished b) = absurd ((offends_neither heads lawful xs q w.offends).1 b)
same_judging {xs} (Judges.malformed r q w) (Judges.malformed r' q' w') = let e = same_wrong xs r r' q q' w w' in ap₂ (λ r q. Outcome.wrong (refusal_number r) q) e.0 e.1

-- a judgment's numbers tell it
judgment_from : Outcome Head → Judgment
judgment_from (Outcome.fine h) = Ok h
judgment_from (Outcome.refused n) = Err (Fault.Refused (refusal_of n))
judgment_from (Outcome.wrong n q) = Err (Fault.Malformed (refusal_of n) q)

judgment_back : (r : Judgment) → judgment_from (outcome_of r) ≡ r
unfolding judgment_from
judgment_back (Ok h) = refl
judgment_back (Err (Fault.Refused r)) = ap (λ r. Err (Fault.Refused r)) (named_number r)
judgment_back (Err (Fault.Malformed r q)) = ap (λ r. Err (Fault.Malformed r q)) (named_number r)

pub outcome_once : (r s : Judgment) → outcome_of r ≡ outcome_of s → r ≡ s
outcome_once r s e = sym (judgment_back r) ∙ ap judgment_from e ∙ judgment_back s

-- `judge` has one answer.
pub one_judging : (xs : List ℕ) (r s : Judgment) → Judges xs (outcome_of r) → Judges xs (outcome_of s) → r ≡ s
one_judging xs r s p q = outcome_once r s (same_judging p q)

-- Any bytes have one: they are a share, or the beginning of one, or something is wrong with them at a place.
pub some_judging : (xs : List ℕ) → Bytes xs → (r : Outcome Head) × Judges xs r
some_judging xs bytes =
    ⊎_elim (λ s. (_, Judges.complete s.0 s.1 s.2))
    (λ w. ⊎_elim (λ b. (_, Judges.unfinished b)) (λ o. (_, Judges.malformed _ o.0 (wrong_at xs o.0 bytes o.1))) w)
    (one_of_three heads lawful xs bytes)

-- Something is wrong with bytes exactly if they are neither a share nor the beginning of one.
pub neither_exactly : (xs : List ℕ) → Bytes xs → ((r : Refusal) × (q : ℕ) × Wrong xs r q) ↔ IsNeither heads xs
neither_exactly xs bytes = (
  λ w. offends_neither heads lawful xs w.1 w.2.offends,
  λ n.
      let o = neither_offends heads lawful xs bytes n in
      (_, o.0, wrong_at xs o.0 bytes o.1),
)
