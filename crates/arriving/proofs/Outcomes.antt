-- The contracts of the state's calls allow one outcome each.
use mathlib.Core.Path.{◌≡◌, refl, sym, ap, ap₂, ◌∙◌}
use mathlib.Core.Bool.{Bool, true, false}
use mathlib.Core.List.{List, ◌++◌}
use mathlib.Core.Logic.{◌↔◌, ⊎_elim}
use Prim.Native.Nat.{ℕ, ◌+◌, ◌≤◌}
use native.Mathlib.Omega.{arith}
use lib.ListN.{length}
use Rattle.letters.specs.Lanes.{Bytes}
use Rattle.letters.proofs.Cases.{eq_or_ne}
use Rattle.group.specs.Answers.{Outcome}
use Rattle.group.proofs.Outcomes.{refusal_of, named_number}
use Rattle.records.specs.Records.{size_for}
use Rattle.layout.specs.Layout.{size_in}
use Rattle.layout.specs.Share.{ShareOf}
use Rattle.layout.specs.Judgment.{CanStand}
use Rattle.layout.proofs.Judgments.{not_both, offends_not_stand}
use Rattle.heads.specs.declared.Head.{Head}
use Rattle.kinds.specs.Kinds.{head_size}
use Rattle.heads.specs.Heads.{heads}
use Rattle.heads.proofs.HeadLaws.{lawful, size_told}
use Rattle.std.specs.Prelude.{Result, Ok, Err}
use Rattle.judging.specs.declared.Fault.{Fault}
use Rattle.judging.specs.Judging.{Judgment}
use Rattle.judging.specs.Judging.{outcome_of, Judges, CanStandTo}
use Rattle.judging.specs.Steps.Judged.{judgment_at}
use Rattle.judging.proofs.Verdicts.{found_wrong, one_good}
use Rattle.judging.proofs.Outcomes.{same_judging, outcome_once}
use Rattle.arriving.specs.declared.Arriving.{Arriving}
use Rattle.arriving.specs.declared.Coming.{Coming}
use Rattle.arriving.specs.States.{head_so_far, state_of, Leads}
use Rattle.arriving.specs.Calls.{Takes, JudgesState, GoodBytesOf, coming_of, Announces}
use Rattle.reaching.proofs.BytesBehind.{Behind}
use Rattle.arriving.proofs.Led.{led_right}
use Rattle.arriving.proofs.Telling.{of_bytes, stands_to, none_wrong, share_told}

-- `reached`
pub reached_once : (s : Arriving) (r r' : Bool) → (r ≡ true) ↔ Leads s → (r' ≡ true) ↔ Leads s → r ≡ r'
reached_once s true true a b = refl
reached_once s true false a b = absurd (not_both false (b.1 (a.0 refl)) refl)
reached_once s false true a b = absurd (not_both false (a.1 (b.0 refl)) refl)
reached_once s false false a b = refl

-- Two states are the same or not, so what can't be different is the same.
same_state : (r r' : Arriving) → ((r ≡ r' → ⊥) → ⊥) → r ≡ r'
same_state r r' n =
    alike (field (λ s. s.at)) (field (λ s. s.wrong)) (field (λ s. s.n)) (field (λ s. s.k)) (field (λ s. s.d)) (field (λ s. s.node)) (field (λ s. s.l)) (field (λ s. s.batch)) (field (λ s. s.kind))
  where
    field : (f : Arriving → ℕ) → f r ≡ f r'
    field f = ⊎_elim (λ e. e) (λ ne. absurd (n (λ e. ne (ap f e)))) (eq_or_ne (f r) (f r'))

    alike :
        r.at ≡ r'.at → r.wrong ≡ r'.wrong → r.n ≡ r'.n → r.k ≡ r'.k → r.d ≡ r'.d → r.node ≡ r'.node → r.l ≡ r'.l → r.batch ≡ r'.batch
        → r.kind ≡ r'.kind → r ≡ r'
    alike a w n k d i l b t =
        ap₂ (λ at wrong. record { at = at; wrong = wrong; n = r.n; k = r.k; d = r.d; node = r.node; l = r.l; batch = r.batch; kind = r.kind }) a w
        ∙ ap₂ (λ n k. record { at = r'.at; wrong = r'.wrong; n = n; k = k; d = r.d; node = r.node; l = r.l; batch = r.batch; kind = r.kind }) n k
        ∙ ap₂ (λ d node. record { at = r'.at; wrong = r'.wrong; n = r'.n; k = r'.k; d = d; node = node; l = r.l; batch = r.batch; kind = r.kind }) d i
        ∙ ap₂ (λ l batch. record { at = r'.at; wrong = r'.wrong; n = r'.n; k = r'.k; d = r'.d; node = r'.node; l = l; batch = batch; kind = r.kind }) l b
        ∙ ap (λ kind. record { at = r'.at; wrong = r'.wrong; n = r'.n; k = r'.k; d = r'.d; node = r'.node; l = r'.l; batch = r'.batch; kind = kind }) t

-- `take` and `after`
pub taken_once : (s : Arriving) (ys : List ℕ) (r r' : Arriving) → Takes s ys r → Takes s ys r' → r ≡ r'
taken_once s ys r r' t t' =
    same_state r r'
    (λ differ.
    let none : Leads s → ⊥ = λ led. differ (sym (t.led led.0 led.1 led.2) ∙ t'.led led.0 led.1 led.2) in
    differ (t.forged none ∙ sym (t'.forged none)))

-- an outcome with other values
abbrev changed : {A B : Type 0} → (A → B) → Outcome A → Outcome B
changed f (Outcome.fine v) = Outcome.fine (f v)
changed f (Outcome.refused n) = Outcome.refused n
changed f (Outcome.wrong n q) = Outcome.wrong n q

-- what is coming is told by its numbers
coming_from : Outcome (Head × ℕ) → Result Coming Fault
coming_from (Outcome.fine v) = Ok (record { head = v.0; bytes = v.1 })
coming_from (Outcome.refused n) = Err (Fault.Refused (refusal_of n))
coming_from (Outcome.wrong n q) = Err (Fault.Malformed (refusal_of n) q)

coming_back : (r : Result Coming Fault) → coming_from (coming_of r) ≡ r
unfolding coming_from
coming_back (Ok c) = refl
coming_back (Err (Fault.Refused r)) = ap (λ r. Err (Fault.Refused r)) (named_number r)
coming_back (Err (Fault.Malformed r q)) = ap (λ r. Err (Fault.Malformed r q)) (named_number r)

-- what is told from a state is told by its numbers, whichever bytes lead there
module _ (s : Arriving) where
  abbrev told : Judgment
  told = judgment_at (head_size s.kind) (head_so_far s) (heads.total (head_so_far s)) s.at (s.at + s.wrong)

  as_told : {r : Outcome Head} (xs : List ℕ) → Bytes xs → state_of xs ≡ s → Judges xs r → r ≡ outcome_of told
  as_told xs bytes e j = same_judging j (of_bytes s _ refl told refl xs bytes e)

  pub same_judgment : {r r' : Outcome Head} → JudgesState s r → JudgesState s r' → r ≡ r'
  same_judgment (JudgesState.led xs bytes e r j) (JudgesState.led xs' bytes' e' r' j') = as_told xs bytes e j ∙ sym (as_told xs' bytes' e' j')
  same_judgment (JudgesState.led xs bytes e r j) (JudgesState.forged none) = absurd (none (xs, bytes, e))
  same_judgment (JudgesState.forged none) (JudgesState.led xs bytes e r j) = absurd (none (xs, bytes, e))
  same_judgment (JudgesState.forged none) (JudgesState.forged none') = refl

  -- so the state is judged as any bytes are that lead there
  pub judged_as_bytes : {r : Outcome Head} → JudgesState s r → (xs : List ℕ) → Bytes xs → state_of xs ≡ s → Judges xs r
  judged_as_bytes (JudgesState.led zs more led r j) xs bytes e = rw (as_told zs more led j) (of_bytes s _ refl told refl xs bytes e)
  judged_as_bytes (JudgesState.forged none) xs bytes e = absurd (none (xs, bytes, e))

  -- `judge`
  pub judged_once : (r r' : Judgment) → JudgesState s (outcome_of r) → JudgesState s (outcome_of r') → r ≡ r'
  judged_once r r' a b = outcome_once r r' (same_judgment a b)

  -- `good_bytes`
  counted : (xs : List ℕ) → Bytes xs → state_of xs ≡ s → (q : ℕ) → CanStandTo xs q → q ≡ s.at
  counted xs bytes e q w = one_good xs bytes q s.at w (stands_to xs bytes s e)

  pub good_once : {q q' : ℕ} → GoodBytesOf s q → GoodBytesOf s q' → q ≡ q'
  good_once (GoodBytesOf.led xs bytes e q w) (GoodBytesOf.led xs' bytes' e' q' w') = counted xs bytes e q w ∙ sym (counted xs' bytes' e' q' w')
  good_once (GoodBytesOf.led xs bytes e q w) (GoodBytesOf.forged none) = absurd (none (xs, bytes, e))
  good_once (GoodBytesOf.forged none) (GoodBytesOf.led xs bytes e q w) = absurd (none (xs, bytes, e))
  good_once (GoodBytesOf.forged none) (GoodBytesOf.forged none') = refl

  -- `coming`: bytes that can stand are those of a state with no wrong byte,
  behind : (xs : List ℕ) → Bytes xs → state_of xs ≡ s → CanStand heads xs → Behind xs (head_so_far s) s.at
  behind xs bytes e stand = (led_right xs bytes s e (none_wrong xs bytes s e stand)).behind

  not_wrong : {n q : ℕ} (xs : List ℕ) → Bytes xs → state_of xs ≡ s → CanStand heads xs → JudgesState s (Outcome.wrong n q) → ⊥
  not_wrong {q = q} xs bytes e stand j = offends_not_stand heads lawful xs q (found_wrong (judged_as_bytes j xs bytes e)).2.offends stand

  -- and their numbers tell the share that is coming
  known :
      (xs : List ℕ) → Bytes xs → state_of xs ≡ s → size_in heads xs ≤ length xs → (h : Head) (ys letters : List ℕ) → ShareOf heads h letters (xs ++ ys)
      → (head_size s.kind ≤ s.at) × (◌≡◌ {A = Head × ℕ} (h, length (xs ++ ys)) (head_so_far s, size_for (head_size s.kind) (heads.total (head_so_far s))))
  known xs bytes e long h ys letters share =
      let b = behind xs bytes e (ys, (h, letters, share)) in
      let many : head_size s.kind ≤ s.at = omega (arith, b.long, size_told xs (head_so_far s) _ refl (sym b.told)) in
      let w = share_told xs s b many h ys letters share in
      (many, ap₂ (λ (h : Head) (n : ℕ). (h, n)) w.0 w.1)

  pub same_coming : {r r' : Outcome (Head × ℕ)} → Announces s r → Announces s r' → r ≡ r'
  same_coming (Announces.known xs bytes e long h ys letters share) (Announces.known xs' bytes' e' long' h' ys' letters' share') =
      ap Outcome.fine ((known xs bytes e long h ys letters share).1 ∙ sym (known xs' bytes' e' long' h' ys' letters' share').1)
  same_coming (Announces.known xs bytes e long h ys letters share) (Announces.early xs' bytes' e' few stand) =
      absurd (omega (arith, (known xs bytes e long h ys letters share).0, (behind xs' bytes' e' stand).long, size_told xs' (head_so_far s) _ refl (sym (behind xs' bytes' e' stand).told)))
  same_coming (Announces.known xs bytes e long h ys letters share) (Announces.malformed n q j) =
      absurd (not_wrong xs bytes e (ys, (h, letters, share)) j)
  same_coming (Announces.early xs' bytes' e' few stand) (Announces.known xs bytes e long h ys letters share) =
      absurd (omega (arith, (known xs bytes e long h ys letters share).0, (behind xs' bytes' e' stand).long, size_told xs' (head_so_far s) _ refl (sym (behind xs' bytes' e' stand).told)))
  same_coming (Announces.early xs bytes e few stand) (Announces.early xs' bytes' e' few' stand') = refl
  same_coming (Announces.early xs bytes e few stand) (Announces.malformed n q j) = absurd (not_wrong xs bytes e stand j)
  same_coming (Announces.malformed n q j) (Announces.known xs bytes e long h ys letters share) =
      absurd (not_wrong xs bytes e (ys, (h, letters, share)) j)
  same_coming (Announces.malformed n q j) (Announces.early xs bytes e few stand) = absurd (not_wrong xs bytes e stand j)
  same_coming (Announces.malformed n q j) (Announces.malformed n' q' j') = ap (changed (λ h. (h, 0))) (same_judgment j j')

  pub coming_once : (r r' : Result Coming Fault) → Announces s (coming_of r) → Announces s (coming_of r') → r ≡ r'
  coming_once r r' a b = sym (coming_back r) ∙ ap coming_from (same_coming a b) ∙ coming_back r'
