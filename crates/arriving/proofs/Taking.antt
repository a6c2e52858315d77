-- What taking leaves: in the state of some bytes, that of these and the others after them.
use mathlib.Core.Path.{◌≡◌, refl, sym, ap, ◌∙◌}
use mathlib.Core.List.{List, [], ◌∷◌, ◌++◌, append-nil}
use Prim.Native.Nat.{ℕ, ◌+◌, ◌<◌}
use native.Mathlib.Omega.{arith}
use lib.ListN.{length, take, length-append}
use lib.Seq.{take-append-le, take-append-add}
use Rattle.letters.specs.Lanes.{Bytes}
use Rattle.layout.proofs.Accepted.{stands_with}
use Rattle.heads.specs.declared.Head.{Head}
use Rattle.heads.specs.Heads.{heads}
use Rattle.heads.specs.Steps.Partly.{head_after}
use Rattle.heads.proofs.HeadLaws.{lawful}
use Rattle.searching.specs.Steps.Search.{Stops, StopsFrom}
use Rattle.arriving.specs.declared.Arriving.{Arriving}
use Rattle.reaching.specs.Numbers.{number_at}
use Rattle.arriving.specs.States.{state_with, head_so_far, state_of, Leads}
use Rattle.arriving.specs.Calls.{Takes}
use Rattle.arriving.proofs.Led.{all_stand, one_wrong, led_right, led_wrong, behind_grown, stops_later}

-- a state to which no bytes lead stays as it is
pub forged_stays : (s : Arriving) (ys : List ℕ) → (Leads s → ⊥) → Takes s ys s
forged_stays s ys none = record { led = λ xs bytes e. absurd (none (xs, bytes, e)); forged = λ n. refl }

-- no bytes change nothing
pub takes_none : (s : Arriving) (ys : List ℕ) → length ys ≡ 0 → Takes s ys s
takes_none s [] e = record { led = λ xs bytes f. ap state_of (append-nil xs) ∙ f; forged = λ n. refl }
takes_none s (y ∷ ys) e = absurd (omega arith)

-- after a wrong byte nothing is counted on
pub wrong_stays : (s : Arriving) (ys : List ℕ) → Leads s → (s.wrong ≡ 0 → ⊥) → Takes s ys s
wrong_stays s ys leads some = record { led = stuck; forged = λ n. absurd (n leads) }
  where
    stuck : (xs : List ℕ) → Bytes xs → state_of xs ≡ s → state_of (xs ++ ys) ≡ s
    stuck xs bytes e =
        let w = led_wrong xs bytes s e some in
        let stops : Stops (xs ++ ys) s.at =
        record {
          within = omega (arith, w.past, length-append xs ys);
          before = λ p l. stands_with heads lawful xs ys p (omega (arith, w.past)) ∙ w.stops.before p l;
          wrong = λ l. stands_with heads lawful xs ys s.at w.past ∙ w.stops.wrong w.past;
        }
        in
        one_wrong (xs ++ ys) s.at (head_so_far s) stops (omega (arith, w.past, length-append xs ys))
        (ap heads.head_in (take-append-le s.at xs ys (omega (arith, w.past))) ∙ w.behind.told)
        ∙ ap (λ n. state_with s.at n (head_so_far s)) (sym w.number)

-- in a state without one, the search through the bytes tells the rest
module _ (s : Arriving) (ys : List ℕ) (leads : Leads s) (none : s.wrong ≡ 0) (q : ℕ) (g : Head) (e : g ≡ head_after (head_so_far s) s.at ys)
    (stops : StopsFrom s.at g ys q) where
  later : (xs : List ℕ) → Bytes xs → state_of xs ≡ s → Stops (xs ++ ys) (s.at + q)
  later xs bytes led = stops_later xs (head_so_far s) s.at (led_right xs bytes s led none).behind ys q (rw (sym e) stops)

  pub takes_all : q ≡ length ys → Takes s ys (state_with (s.at + q) 0 g)
  takes_all all =
      record {
        led =
            λ xs bytes led.
            let b = (led_right xs bytes s led none).behind in
            all_stand (xs ++ ys) g (s.at + q) (later xs bytes led) (omega (arith, length-append xs ys, b.long))
            (sym (e ∙ behind_grown xs (head_so_far s) s.at b ys));
        forged = λ n. absurd (n leads);
      }

  pub takes_some :
      q < length ys → (f : Head) → f ≡ head_after (head_so_far s) s.at (take q ys)
      → Takes s ys (state_with (s.at + q) (number_at f.kind (heads.total f) (s.at + q)) f)
  takes_some less f ef =
      record {
        led =
            λ xs bytes led.
            let b = (led_right xs bytes s led none).behind in
            one_wrong (xs ++ ys) (s.at + q) f (later xs bytes led) (omega (arith, length-append xs ys, b.long))
            (ap (λ n. heads.head_in (take (n + q) (xs ++ ys))) (sym b.long)
            ∙ ap heads.head_in (take-append-add xs ys q)
            ∙ sym (ef ∙ behind_grown xs (head_so_far s) s.at b (take q ys)));
        forged = λ n. absurd (n leads);
      }
