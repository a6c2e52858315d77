-- What a call answers is what the bytes are: where the reader's loops stop tells which of the three judgments holds.
use mathlib.Core.Path.{◌≡◌, refl, ap, ap₂, ◌∙◌}
use mathlib.Core.List.{List}
use mathlib.Core.Logic.{⊎_elim}
use Prim.Native.Nat.{ℕ, ◌<◌}
use native.Mathlib.Omega.{arith}
use lib.ListN.{length, take}
use borrow.Author.Tests.{lt-ltb, le-ltb, eq-eqb, ne_eqb}
use Rattle.letters.proofs.Cases.{le_or_lt, eq_or_ne}
use Rattle.group.specs.declared.Refusal.{Refusal}
use Rattle.group.specs.declared.Refusal.TheVariants.{Unfinished}
use Rattle.group.specs.Answers.{refusal_number, Outcome}
use Rattle.records.specs.Records.{size_for}
use Rattle.layout.specs.Layout.{size_in, total_in}
use Rattle.letters.specs.Lanes.{Bytes}
use Rattle.layout.specs.Judgment.{IsShareOf, IsBeginning}
use Rattle.layout.specs.Steps.Stands.{stands}
use Rattle.layout.proofs.Accepted.{Accepted, own_letters}
use Rattle.layout.proofs.Completing.{can_stand, whole_share}
use Rattle.layout.proofs.Judgments.{not_both, is_beginning, accepted_take, bytes_take, stands_before, offends_if, wrong_if}
use Rattle.heads.specs.declared.Head.{Head}
use Rattle.std.specs.Prelude.{Ok, Err}
use Rattle.judging.specs.declared.Fault.{Fault}
use Rattle.judging.specs.Judging.{Judgment}
use Rattle.heads.specs.Heads.{heads}
use Rattle.judging.specs.Judging.{outcome_of, Wrong, Judges, CanStandTo}
use Rattle.searching.specs.Steps.Search.{Stops}
use Rattle.refusing.specs.Steps.Refusing.{refusal_at}
use Rattle.judging.specs.Steps.Judged.{judgment_at}
use Rattle.heads.proofs.HeadLaws.{lawful}
use Rattle.judging.proofs.WouldStand.{wrong_at}

-- Where the search stops, so many bytes can stand.
pub stand_to : (xs : List ℕ) → Bytes xs → (q : ℕ) → Stops xs q → CanStandTo xs q
stand_to xs bytes q s =
    record {
      within = s.within;
      before =
          can_stand heads lawful (take q xs) (bytes_take heads lawful xs q s.within bytes) (accepted_take heads lawful xs q s.within s.before);
      next = λ l. offends_if heads lawful xs q bytes l (record { before = s.before; wrong = s.wrong l });
    }

-- the judgment where the loops stop
module _ (xs : List ℕ) (bytes : Bytes xs) (q : ℕ) (s : Stops xs q) where
  judgment_right : (r : Judgment) → r ≡ judgment_at (size_in heads xs) (heads.head_in xs) (total_in heads xs) q (length xs) → Judges xs (outcome_of r)
  judgment_right r e =
      ⊎_elim
      (λ all.
      let a : Accepted heads xs = λ p h. s.before p (omega arith) in
      ⊎_elim
      (λ whole.
      let c : r ≡ Ok (heads.head_in xs) =
      e ∙ simp (le-ltb q (length xs) all, eq-eqb (length xs) (size_for (size_in heads xs) (total_in heads xs)) whole)
      in
      rw c (Judges.complete (heads.head_in xs) (own_letters heads xs) (whole_share heads lawful xs bytes a whole)))
      (λ more.
      let c : r ≡ Err (Fault.Refused Unfinished) =
      e ∙ simp (le-ltb q (length xs) all, ne_eqb (length xs) (size_for (size_in heads xs) (total_in heads xs)) more)
      in
      rw c (Judges.unfinished (is_beginning heads lawful xs bytes a more)))
      (eq_or_ne (length xs) (size_for (size_in heads xs) (total_in heads xs))))
      (λ wrong.
      let c : r ≡ Err (Fault.Malformed (refusal_at (size_in heads xs) (total_in heads xs) q) q) = e ∙ simp (lt-ltb q (length xs) wrong) in
      rw c (Judges.malformed _ q (wrong_at xs q bytes ((stand_to xs bytes q s).next wrong))))
      (le_or_lt (length xs) q)

  -- as the code finds it: by a head and a T that it has read
  pub judges :
      (front : ℕ) (h : Head) (T count : ℕ) (r : Judgment) → front ≡ size_in heads xs → h ≡ heads.head_in xs → T ≡ heads.total h → count ≡ length xs
      → r ≡ judgment_at front h T q count
      → Judges xs (outcome_of r)
  judges front h T count r ef eh et ec e =
      judgment_right r
      (e
      ∙ ap (λ f. judgment_at f h T q count) ef
      ∙ ap₂ (λ h T. judgment_at (size_in heads xs) h T q count) eh (et ∙ ap heads.total eh)
      ∙ ap (judgment_at (size_in heads xs) (heads.head_in xs) (total_in heads xs) q) ec)

-- bytes that are judged complete are a share of that head,
pub found_share : {xs : List ℕ} {h : Head} → Judges xs (Outcome.fine h) → IsShareOf heads h xs
found_share (Judges.complete h letters s) = (letters, s)

-- the beginning of one where they are refused,
pub found_beginning : {xs : List ℕ} {n : ℕ} → Judges xs (Outcome.refused n) → (n ≡ refusal_number Unfinished) × IsBeginning heads xs
found_beginning (Judges.unfinished b) = (refl, b)

-- and else something is wrong with them
pub found_wrong : {xs : List ℕ} {n q : ℕ} → Judges xs (Outcome.wrong n q) → (r : Refusal) × (n ≡ refusal_number r) × Wrong xs r q
found_wrong (Judges.malformed r q w) = (r, refl, w)

-- and no other number of them can
pub stops_at : (xs : List ℕ) → Bytes xs → (q : ℕ) → CanStandTo xs q → Stops xs q
stops_at xs bytes q w =
    record {
      within = w.within;
      before = stands_before heads lawful xs q w.within w.before;
      wrong = λ l. (wrong_if heads lawful xs q bytes (w.next l)).wrong;
    }

pub stops_once : (xs : List ℕ) (q q' : ℕ) → Stops xs q → Stops xs q' → q ≡ q'
stops_once xs q q' s s' = omega (arith, two q q' s s', two q' q s' s)
  where
    two : (q q' : ℕ) → Stops xs q → Stops xs q' → q < q' → ⊥
    two q q' s s' lt = not_both (stands heads xs q) (s'.before q lt) (s.wrong (omega (arith, s'.within)))

-- `good_bytes` has one answer.
pub one_good : (xs : List ℕ) → Bytes xs → (q q' : ℕ) → CanStandTo xs q → CanStandTo xs q' → q ≡ q'
one_good xs bytes q q' w w' = stops_once xs q q' (stops_at xs bytes q w) (stops_at xs bytes q' w')
