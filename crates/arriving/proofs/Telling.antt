-- What is told from a state is what the bytes are that lead there.
use mathlib.Core.Path.{◌≡◌, refl, sym, ap, ap₂, subst, ◌∙◌}
use mathlib.Core.List.{List, ◌++◌}
use mathlib.Core.Logic.{inl, inr, ⊎_elim}
use Prim.Native.Nat.{ℕ, ◌+◌, ◌≤◌, ◌<◌}
use native.Mathlib.Omega.{arith}
use lib.ListN.{length, take, get_or-append}
use lib.Seq.{get_or-take}
use borrow.Author.Tests.{lt-ltb}
use Rattle.letters.specs.Lanes.{Bytes}
use Rattle.letters.proofs.Cases.{eq_or_ne}
use Rattle.group.specs.declared.Refusal.{Refusal}
use Rattle.group.specs.declared.Refusal.TheVariants.{Unfinished}
use Rattle.group.specs.Answers.{refusal_number, Outcome}
use Rattle.records.specs.Records.{size_for}
use Rattle.layout.specs.Layout.{size_in, total_in}
use Rattle.layout.specs.Share.{ShareOf}
use Rattle.layout.specs.Judgment.{CanStand}
use Rattle.layout.proofs.Completing.{can_stand}
use Rattle.layout.proofs.Judgments.{share_head, share_size, either_stands, offends_not_stand}
use Rattle.heads.specs.declared.Head.{Head}
use Rattle.kinds.specs.Kinds.{head_size}
use Rattle.heads.specs.Heads.{heads}
use Rattle.heads.proofs.HeadLaws.{lawful, size_told, same_numbers}
use Rattle.std.specs.Prelude.{Ok, Err}
use Rattle.judging.specs.declared.Fault.{Fault}
use Rattle.judging.specs.Judging.{Judgment}
use Rattle.judging.specs.Judging.{outcome_of, Judges, CanStandTo}
use Rattle.refusing.specs.Steps.Refusing.{refusal_at}
use Rattle.judging.specs.Steps.Judged.{judgment_at}
use Rattle.judging.proofs.WouldStand.{same_refusal}
use Rattle.judging.proofs.Verdicts.{judges, found_share, found_beginning, stand_to}
use Rattle.arriving.specs.declared.Arriving.{Arriving}
use Rattle.arriving.specs.States.{head_so_far, state_of, Leads}
use Rattle.arriving.specs.Calls.{JudgesState, GoodBytesOf, Announces}
use Rattle.reaching.proofs.BytesBehind.{Behind}
use Rattle.arriving.proofs.Led.{led_right, led_wrong}

-- the judgment
module _ (s : Arriving) (T : ℕ) (total : T ≡ heads.total (head_so_far s)) (r : Judgment)
    (e : r ≡ judgment_at (head_size s.kind) (head_so_far s) T s.at (s.at + s.wrong)) where
  pub of_bytes : (xs : List ℕ) → Bytes xs → state_of xs ≡ s → Judges xs (outcome_of r)
  of_bytes xs bytes led =
      ⊎_elim
      (λ none.
      let w = led_right xs bytes s led none in
      judges xs bytes s.at w.stops (head_size s.kind) (head_so_far s) T (s.at + s.wrong) r (size_told xs (head_so_far s) _ refl (sym w.behind.told)) (sym w.behind.told) total
      (omega (arith, w.behind.long)) e)
      (λ some.
      let w = led_wrong xs bytes s led some in
      let bad : r ≡ Err (Fault.Malformed (refusal_at (head_size s.kind) T s.at) s.at) =
      e ∙ simp (lt-ltb s.at (s.at + s.wrong) (omega (arith, some)))
      in
      let same : refusal_at (head_size s.kind) T s.at ≡ refusal_at (size_in heads xs) (total_in heads xs) s.at =
      ap₂ (λ f t. refusal_at f t s.at) (size_told (take s.at xs) (head_so_far s) _ refl (sym w.behind.told)) (total ∙ ap heads.total (sym w.behind.told))
      ∙ same_refusal (take s.at xs) xs s.at (λ i l. get_or-take s.at xs i 0 l)
      in
      judges xs bytes s.at w.stops (size_in heads xs) (heads.head_in xs) (total_in heads xs) (length xs) r refl refl refl refl
      (bad ∙ ap (λ r. Err (Fault.Malformed r s.at)) same ∙ sym (simp (lt-ltb s.at (length xs) w.past))))
      (eq_or_ne s.wrong 0)

  pub judged_right : Leads s → JudgesState s (outcome_of r)
  judged_right leads = JudgesState.led leads.0 leads.1 leads.2 (outcome_of r) (of_bytes leads.0 leads.1 leads.2)

-- so many bytes can stand, of those that lead to a state, as it counts
pub stands_to : (xs : List ℕ) → Bytes xs → (s : Arriving) → state_of xs ≡ s → CanStandTo xs s.at
stands_to xs bytes s e =
    stand_to xs bytes s.at (⊎_elim (λ none. (led_right xs bytes s e none).stops) (λ some. (led_wrong xs bytes s e some).stops) (eq_or_ne s.wrong 0))

pub state_stands : (s : Arriving) → Leads s → GoodBytesOf s s.at
state_stands s leads = GoodBytesOf.led leads.0 leads.1 leads.2 s.at (stands_to leads.0 leads.1 s leads.2)

-- where these can stand, no byte is wrong
pub none_wrong : (xs : List ℕ) → Bytes xs → (s : Arriving) → state_of xs ≡ s → CanStand heads xs → s.wrong ≡ 0
none_wrong xs bytes s e stand =
    ⊎_elim (λ none. none)
    (λ some. absurd (offends_not_stand heads lawful xs s.at ((stands_to xs bytes s e).next (led_wrong xs bytes s e some).past) stand))
    (eq_or_ne s.wrong 0)

-- A state that isn't judged malformed, but as one of the first two cases, is that of bytes that all stand.
module _ (s : Arriving) where
  abbrev Fine : Judgment → Type 0
  Fine r = (x : Refusal) (q : ℕ) → r ≡ Err (Fault.Malformed x q) → ⊥

  pub share_stands : (h : Head) → JudgesState s (Outcome.fine h) → Leads s × (s.wrong ≡ 0)
  share_stands h (JudgesState.led xs bytes e _ j) =
      ((xs, bytes, e), none_wrong xs bytes s e (either_stands heads lawful xs (let w = found_share j in inl (h, w.0, w.1))))

  pub beginning_stands : (n : ℕ) → JudgesState s (Outcome.refused n) → Leads s × (s.wrong ≡ 0)
  beginning_stands n (JudgesState.led xs bytes e _ j) =
      ((xs, bytes, e), none_wrong xs bytes s e (either_stands heads lawful xs (inr (found_beginning j).1)))

  pub judged_fine : (r : Judgment) → JudgesState s (outcome_of r) → Fine r → Leads s × (s.wrong ≡ 0)
  judged_fine (Ok h) j fine = share_stands h j
  judged_fine (Err (Fault.Refused r)) j fine = beginning_stands (refusal_number r) j
  judged_fine (Err (Fault.Malformed r q)) j fine = absurd (fine r q refl)

-- a share that begins with bytes whose head is in has this head, and as many bytes as it says
pub share_told :
    (xs : List ℕ) (s : Arriving) → Behind xs (head_so_far s) s.at → head_size s.kind ≤ s.at → (h : Head) (ys letters : List ℕ)
    → ShareOf heads h letters (xs ++ ys) → (h ≡ head_so_far s) × (length (xs ++ ys) ≡ size_for (head_size s.kind) (heads.total (head_so_far s)))
share_told xs s b long h ys letters share =
    let same : heads.head_in (xs ++ ys) ≡ head_so_far s =
    sym (same_numbers xs (xs ++ ys) (λ p hi. sym (get_or-append xs ys 0 p (omega (arith, b.long, size_told xs (head_so_far s) _ refl (sym b.told)))))) ∙ b.told
    in (
      sym (share_head heads lawful h letters (xs ++ ys) share) ∙ same,
      share_size heads lawful (xs ++ ys) (h, letters, share)
          ∙ ap₂ size_for (sym (size_told (xs ++ ys) (head_so_far s) _ refl (sym same))) (ap heads.total same),
    )

-- the share that is coming
module _ (s : Arriving) (leads : Leads s) where
  pub announces_early : s.wrong ≡ 0 → s.at < head_size s.kind → Announces s (Outcome.refused (refusal_number Unfinished))
  announces_early none few =
      let b = (led_right leads.0 leads.1 s leads.2 none).behind in
      Announces.early leads.0 leads.1 leads.2 (omega (arith, b.long, size_told leads.0 (head_so_far s) _ refl (sym b.told))) (can_stand heads lawful leads.0 leads.1 b.all)

  pub announces_known :
      s.wrong ≡ 0 → head_size s.kind ≤ s.at → (count T : ℕ) → T ≡ heads.total (head_so_far s) → count ≡ size_for (head_size s.kind) T
      → Announces s (Outcome.fine (head_so_far s, count))
  announces_known none long count T total size =
      let xs = leads.0 in
      let b = (led_right xs leads.1 s leads.2 none).behind in
      let c = can_stand heads lawful xs leads.1 b.all in
      let f = share_told xs s b long c.1.0 c.0 c.1.1 c.1.2 in
      let bytes : length (xs ++ c.0) ≡ count = f.1 ∙ ap (size_for (head_size s.kind)) (sym total) ∙ sym size in
      subst (λ n. Announces s (Outcome.fine (head_so_far s, n))) bytes
      (Announces.known xs leads.1 leads.2 (omega (arith, b.long, size_told xs (head_so_far s) _ refl (sym b.told))) (head_so_far s) c.0 c.1.1
      (subst (λ h. ShareOf heads h c.1.1 (xs ++ c.0)) f.0 c.1.2))
