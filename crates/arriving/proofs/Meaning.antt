-- What the state means: judged complete, 7, or wrong at a place exactly if such bytes lead there; a state to which no bytes lead never
-- comes alive; and how the bytes were cut can't be seen.
use mathlib.Core.Path.{◌≡◌, refl, sym, ap, subst, ◌∙◌}
use mathlib.Core.List.{List, [], ◌++◌, append-nil, append_assoc}
use mathlib.Core.Logic.{◌↔◌, ◌⊎◌, inl, inr}
use Prim.Native.Nat.{ℕ, ◌<◌}
use lib.ListN.{length, take}
use lib.Seq.{get_or-take}
use borrow.Author.Tests.{lt-ltb}
use Rattle.letters.specs.Lanes.{Bytes}
use Rattle.group.specs.declared.Refusal.{Refusal}
use Rattle.group.specs.declared.Refusal.TheVariants.{Unfinished, Kind}
use Rattle.group.specs.Answers.{refusal_number, Outcome}
use Rattle.group.proofs.Outcomes.{refusal_once}
use Rattle.layout.specs.Layout.{size_in, total_in}
use Rattle.layout.proofs.Completing.{bytes_joined}
use Rattle.layout.specs.Judgment.{IsShareOf, IsBeginning}
use Rattle.heads.specs.declared.Head.{Head}
use Rattle.heads.specs.Heads.{head_in, heads}
use Rattle.judging.specs.Judging.{Wrong, Judges}
use Rattle.refusing.specs.Steps.Refusing.{refusal_at}
use Rattle.judging.proofs.WouldStand.{same_refusal, wrong_at, wrong_once}
use Rattle.judging.proofs.Verdicts.{found_share, found_beginning, found_wrong, stand_to}
use Rattle.arriving.specs.declared.Arriving.{Arriving}
use Rattle.arriving.specs.States.{good_bytes, state_of, Leads}
use Rattle.arriving.specs.Calls.{Takes, JudgesState}
use Rattle.arriving.proofs.GoodBytes.{good_stops}

-- bytes of this kind lead to the state
abbrev pub LedBy : (List ℕ → Type 0) → Arriving → Type 0
LedBy P s = (xs : List ℕ) × Bytes xs × (state_of xs ≡ s) × P xs

-- judged complete with this head exactly if a share with it leads there,
pub complete_exactly : (s : Arriving) (h : Head) → JudgesState s (Outcome.fine h) ↔ LedBy (IsShareOf heads h) s
complete_exactly s h = (from, λ w. JudgesState.led w.0 w.1 w.2 _ (Judges.complete h w.3.0 w.3.1))
  where
    from : JudgesState s (Outcome.fine h) → LedBy (IsShareOf heads h) s
    from (JudgesState.led xs bytes led _ j) = (xs, bytes, led, found_share j)

-- unfinished exactly if the beginning of one does,
pub unfinished_exactly : (s : Arriving) → JudgesState s (Outcome.refused (refusal_number Unfinished)) ↔ LedBy (IsBeginning heads) s
unfinished_exactly s = (from, λ w. JudgesState.led w.0 w.1 w.2 _ (Judges.unfinished w.3))
  where
    from : {n : ℕ} → JudgesState s (Outcome.refused n) → LedBy (IsBeginning heads) s
    from (JudgesState.led xs bytes led _ j) = (xs, bytes, led, (found_beginning j).1)

-- this number is wrong with bytes at this place
abbrev pub WrongBy : ℕ → ℕ → List ℕ → Type 0
WrongBy n q xs = (r : Refusal) × (n ≡ refusal_number r) × Wrong xs r q

-- and wrong by a number at a place exactly if such bytes do; or none at all, and then it is 8 at 0
pub malformed_exactly :
    (s : Arriving) (n q : ℕ) → JudgesState s (Outcome.wrong n q) ↔ (((Leads s → ⊥) × (n ≡ refusal_number Kind) × (q ≡ 0)) ⊎ LedBy (WrongBy n q) s)
malformed_exactly s n q = (from, to)
  where
    from : {n q : ℕ} → JudgesState s (Outcome.wrong n q) → ((Leads s → ⊥) × (n ≡ refusal_number Kind) × (q ≡ 0)) ⊎ LedBy (WrongBy n q) s
    from (JudgesState.led xs bytes led _ j) = inr (xs, bytes, led, found_wrong j)
    from (JudgesState.forged none) = inl (none, refl, refl)

    to : ((Leads s → ⊥) × (n ≡ refusal_number Kind) × (q ≡ 0)) ⊎ LedBy (WrongBy n q) s → JudgesState s (Outcome.wrong n q)
    to (inl w) = rw (w.1, w.2) (JudgesState.forged w.0)
    to (inr w) = JudgesState.led w.0 w.1 w.2 (Outcome.wrong n q) (rw w.3.1 (Judges.malformed w.3.0 q w.3.2))

-- The number in a state is that of what is wrong with the first byte that can't stand.
pub number_exactly : (xs : List ℕ) → Bytes xs → good_bytes xs < length xs → (r : Refusal) → ((state_of xs).wrong ≡ refusal_number r) ↔ Wrong xs r (good_bytes xs)
unfolding state_of head_in
number_exactly xs bytes more r = (
  λ e. subst (λ r. Wrong xs r q) (sym (refusal_once r here (sym e ∙ number))) (wrong_at xs q bytes ((stand_to xs bytes q (good_stops xs)).next more)),
  λ w. number ∙ ap refusal_number (sym (wrong_once xs r q w)),
)
  where
    q : ℕ
    q = good_bytes xs

    here : Refusal
    here = refusal_at (size_in heads xs) (total_in heads xs) q

    number : (state_of xs).wrong ≡ refusal_number here
    number = simp (lt-ltb (good_bytes xs) (length xs) more) (ap refusal_number (same_refusal (take q xs) xs q (λ i l. get_or-take q xs i 0 l)))

-- A state to which no bytes lead is judged 8 at 0, and so is what it becomes after any bytes.
pub forged_for_ever : (s r : Arriving) (ys : List ℕ) → (Leads s → ⊥) → Takes s ys r → Leads r → ⊥
forged_for_ever s r ys none t led = none (led.0, led.1, led.2 ∙ t.forged none)

pub forged_is_malformed : {s : Arriving} {r : Outcome Head} → (Leads s → ⊥) → JudgesState s r → r ≡ Outcome.wrong (refusal_number Kind) 0
forged_is_malformed none (JudgesState.led xs bytes led r j) = absurd (none (xs, bytes, led))
forged_is_malformed none (JudgesState.forged other) = refl

-- Two bursts leave what they leave as one, and an empty one leaves everything as it is.
pub bursts_join : (s r t : Arriving) (ys zs : List ℕ) → Bytes ys → Takes s ys r → Takes r zs t → Takes s (ys ++ zs) t
bursts_join s r t ys zs more one two = record { led = led; forged = λ none. two.forged (forged_for_ever s r ys none one) ∙ one.forged none }
  where
    led : (xs : List ℕ) → Bytes xs → state_of xs ≡ s → state_of (xs ++ (ys ++ zs)) ≡ t
    led xs bytes e = ap state_of (sym (append_assoc xs ys zs)) ∙ two.led (xs ++ ys) (bytes_joined xs ys bytes more) (one.led xs bytes e)

pub nothing_taken : (s r : Arriving) → Takes s [] r → (xs : List ℕ) → Bytes xs → state_of xs ≡ s → r ≡ s
nothing_taken s r t xs bytes e = sym (t.led xs bytes e) ∙ ap state_of (append-nil xs) ∙ e
