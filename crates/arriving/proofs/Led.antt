-- Which states bytes lead to: exactly those whose numbers are a head's where so many bytes can stand, with a wrong byte only where some byte
-- can be wrong. So whether bytes lead to a state is decided from its numbers.
use mathlib.Core.Path.{◌≡◌, refl, sym, ap, ap₂, subst, ◌∙◌}
use mathlib.Core.List.{List, [], ◌∷◌, ◌++◌}
use mathlib.Core.Logic.{inl, inr, ⊎_elim}
use Prim.Native.Nat.{ℕ, suc, ◌+◌, ◌^◌, ◌<◌}
use native.Mathlib.Omega.{arith}
use lib.ListN.{length, get_or, take, length-append}
use lib.Seq.{take-length, take_all, take-suc, take_at, length-take-le, get_or_at}
use borrow.Author.Tests.{lt-ltb, le-ltb}
use Rattle.letters.specs.Lanes.{Bytes}
use Rattle.letters.proofs.Cases.{le_or_lt, eq_or_ne}
use Rattle.group.proofs.Refusals.{never_zero, small_number}
use Rattle.layout.specs.Steps.Stands.{stands}
use Rattle.layout.proofs.Accepted.{stands_with}
use Rattle.layout.proofs.Completing.{bytes_next}
use Rattle.layout.proofs.Judgments.{accepted_take, bytes_take, stands_take}
use Rattle.heads.specs.declared.Head.{Head}
use Rattle.kinds.specs.Kinds.{head_size}
use Rattle.heads.specs.Heads.{heads}
use Rattle.heads.specs.Steps.Partly.{head_after}
use Rattle.heads.proofs.HeadLaws.{lawful}
use Rattle.searching.specs.Steps.Search.{stands_at, Stops, StopsFrom}
use Rattle.refusing.specs.Steps.Refusing.{refusal_at}
use Rattle.searching.proofs.Joining.{stands_at_lem, joined}
use Rattle.arriving.specs.declared.Arriving.{Arriving}
use Rattle.reaching.specs.Numbers.{number_at}
use Rattle.arriving.specs.States.{good_bytes, state_with, head_so_far, state_to, state_of, Leads}
use Rattle.reaching.specs.Steps.Reaching.{HeadAt, CanBeWrong, Led}
use Rattle.arriving.proofs.GoodBytes.{good_stops, good_is}
use Rattle.reaching.proofs.BytesBehind.{Behind, numbers_of, grown, some_behind}

-- the state, where it is known at which byte the search stops
state_at : (xs : List ℕ) (q : ℕ) → Stops xs q → state_of xs ≡ state_to xs q
unfolding state_of
state_at xs q s = ap (state_to xs) (good_is xs q s)

pub all_stand : (xs : List ℕ) (h : Head) (at : ℕ) → Stops xs at → length xs ≡ at → heads.head_in xs ≡ h → state_of xs ≡ state_with at 0 h
all_stand xs h at s long told =
    state_at xs at s
    ∙ ap₂ (state_with at) (simp (le-ltb at (length xs) (omega arith))) (ap heads.head_in (take_all at xs (omega arith)) ∙ told)

pub one_wrong :
    (xs : List ℕ) (q : ℕ) (h : Head) → Stops xs q → q < length xs → heads.head_in (take q xs) ≡ h → state_of xs ≡ state_with q (number_at h.kind (heads.total h) q) h
one_wrong xs q h s more told =
    state_at xs q s
    ∙ ap (λ w. state_with q w (heads.head_in (take q xs))) (simp (lt-ltb q (length xs) more))
    ∙ ap (λ (h : Head). state_with q (number_at h.kind (heads.total h) q) h) told

-- what is known of bytes that lead to a state: where no byte is wrong,
pub record AllStand (xs : List ℕ) (s : Arriving) : Type 0 where
  pub behind : Behind xs (head_so_far s) s.at
  pub stops : Stops xs s.at

-- and where one is
pub record OneWrong (xs : List ℕ) (s : Arriving) : Type 0 where
  pub number : s.wrong ≡ number_at s.kind (heads.total (head_so_far s)) s.at
  pub past : s.at < length xs
  pub stops : Stops xs s.at
  pub behind : Behind (take s.at xs) (head_so_far s) s.at

module _ (xs : List ℕ) (bytes : Bytes xs) where
  right : (state_of xs).wrong ≡ 0 → AllStand xs (state_of xs)
  unfolding state_of
  right none =
      record {
        behind =
            record {
              bytes = bytes;
              all = λ p h. (good_stops xs).before p (omega (arith, all));
              long = sym all;
              told = sym (ap (λ q. heads.head_in (take q xs)) all ∙ ap heads.head_in (take-length xs));
            };
        stops = good_stops xs;
      }
    where
      all : good_bytes xs ≡ length xs
      all =
          ⊎_elim (λ past. omega (arith, (good_stops xs).within))
          (λ more.
          absurd
          (never_zero (refusal_at (head_size (heads.head_in (take (good_bytes xs) xs)).kind) (heads.total (heads.head_in (take (good_bytes xs) xs))) (good_bytes xs))
          (simp (lt-ltb (good_bytes xs) (length xs) more) at none)))
          (le_or_lt (length xs) (good_bytes xs))

  wrong : ((state_of xs).wrong ≡ 0 → ⊥) → OneWrong xs (state_of xs)
  unfolding state_of
  wrong some =
      record {
        number = simp (lt-ltb (good_bytes xs) (length xs) more);
        past = more;
        stops = s;
        behind =
            record {
              bytes = bytes_take heads lawful xs (good_bytes xs) s.within bytes;
              all = accepted_take heads lawful xs (good_bytes xs) s.within s.before;
              long = length-take-le (good_bytes xs) xs s.within;
              told = refl;
            };
      }
    where
      s : Stops xs (good_bytes xs)
      s = good_stops xs

      more : good_bytes xs < length xs
      more = ⊎_elim (λ past. absurd (some (simp (le-ltb (good_bytes xs) (length xs) past)))) (λ more. more) (le_or_lt (length xs) (good_bytes xs))

  -- of any state that they lead to
  module _ (s : Arriving) (e : state_of xs ≡ s) where
    pub led_right : s.wrong ≡ 0 → AllStand xs s
    led_right = subst (λ s. s.wrong ≡ 0 → AllStand xs s) e right

    pub led_wrong : (s.wrong ≡ 0 → ⊥) → OneWrong xs s
    led_wrong = subst (λ s. (s.wrong ≡ 0 → ⊥) → OneWrong xs s) e wrong

module _ (zs : List ℕ) (h : Head) (at : ℕ) (b : Behind zs h at) where
  pub behind_numbers : HeadAt h at
  behind_numbers = rw (sym b.told, sym b.long) (numbers_of zs b.bytes b.all)

  pub behind_grown : (ys : List ℕ) → head_after h at ys ≡ heads.head_in (zs ++ ys)
  behind_grown ys = rw (sym b.told, sym b.long) (grown zs b.bytes b.all ys)

  -- where the search stops in further bytes, it stops in all of them
  pub stops_later : (ys : List ℕ) (q : ℕ) → StopsFrom at (head_after h at ys) ys q → Stops (zs ++ ys) (at + q)
  stops_later ys q s =
      subst (λ n. Stops (zs ++ ys) (n + q)) b.long
      (joined zs ys q (λ p l. stands_with heads lawful zs ys p l ∙ b.all p l)
      (subst (λ n. StopsFrom n (heads.head_in (zs ++ ys)) ys q) (sym b.long) (subst (λ g. StopsFrom at g ys q) (behind_grown ys) s)))

-- from the bytes to the numbers
module _ (s : Arriving) (led : Leads s) where
  pub numbers_led : HeadAt (head_so_far s) s.at
  numbers_led =
      ⊎_elim (λ none. behind_numbers led.0 _ _ (led_right led.0 led.1 s led.2 none).behind)
      (λ some. behind_numbers (take s.at led.0) _ _ (led_wrong led.0 led.1 s led.2 some).behind)
      (eq_or_ne s.wrong 0)

  pub batch_led : s.batch < 2 ^ 32
  batch_led =
      ⊎_elim (λ long. (numbers_led.whole long).batch) (λ few. omega (arith, (numbers_led.partly few).fits.batch)) (le_or_lt (head_size s.kind) s.at)

  pub wrong_led : (s.wrong ≡ 0 → ⊥) → (s.wrong ≡ number_at s.kind (heads.total (head_so_far s)) s.at) × CanBeWrong (head_so_far s) s.at
  wrong_led some =
      let w = led_wrong led.0 led.1 s led.2 some in
      let xs = led.0 in
      let q = s.at in
      let byte = get_or xs q 0 in (
        w.number,
        (
          byte,
          led.1.below q w.past,
          ap (λ g. stands_at g q byte) (behind_grown (take q xs) (head_so_far s) q w.behind (byte ∷ []))
              ∙ ap (stands_at (heads.head_in (take q xs ++ byte ∷ [])) q) (sym (get_or_at (take q xs) byte [] 0 q w.behind.long))
              ∙ sym (stands_at_lem (take q xs ++ byte ∷ []) q)
              ∙ ap (λ ys. stands heads ys q) (sym (take-suc xs q 0 w.past))
              ∙ stands_take heads lawful xs (suc q) q (omega arith)
              ∙ w.stops.wrong w.past,
        ),
      )

  pub number_small : s.wrong < 256
  number_small =
      ⊎_elim (λ none. omega arith)
      (λ some. omega (arith, (wrong_led some).0, small_number (refusal_at (head_size s.kind) (heads.total (head_so_far s)) s.at))) (eq_or_ne s.wrong 0)

-- and from the numbers to the bytes
module _ (s : Arriving) (w : HeadAt (head_so_far s) s.at) where
  zs : List ℕ
  zs = (some_behind (head_so_far s) s.at w).0

  b : Behind zs (head_so_far s) s.at
  unfolding zs
  b = (some_behind (head_so_far s) s.at w).1

  pub leads_right : s.wrong ≡ 0 → Leads s
  leads_right none = (
    zs,
    b.bytes,
    all_stand zs (head_so_far s) s.at (record { within = omega (arith, b.long); before = λ p l. b.all p (omega (arith, b.long)); wrong = λ l. absurd (omega (arith, b.long)) })
        b.long b.told
        ∙ ap (λ w. state_with s.at w (head_so_far s)) (sym none),
  )

  pub leads_wrong : s.wrong ≡ number_at s.kind (heads.total (head_so_far s)) s.at → CanBeWrong (head_so_far s) s.at → Leads s
  leads_wrong number c =
      let byte = c.0 in
      let xs = zs ++ byte ∷ [] in
      let here : s.at + 0 ≡ s.at = omega arith in
      let stops : Stops xs s.at =
      subst (Stops xs) here
      (stops_later zs (head_so_far s) s.at b (byte ∷ []) 0
      (record { within = omega arith; before = λ p l. absurd (omega arith); wrong = λ l. rw here c.2 }))
      in (
        xs,
        bytes_next zs byte b.bytes c.1,
        one_wrong xs s.at (head_so_far s) stops (omega (arith, length-append zs (byte ∷ []), b.long))
            (ap heads.head_in (take_at zs (byte ∷ []) s.at b.long) ∙ b.told)
            ∙ ap (λ w. state_with s.at w (head_so_far s)) (sym number),
      )

-- The same by a head that is known to be the state's, as the code has it.
module _ (s : Arriving) (h : Head) (e : h ≡ head_so_far s) where
  pub known_numbers : Leads s → HeadAt h s.at
  known_numbers led = rw e (numbers_led s led)

  pub known_right : HeadAt h s.at → s.wrong ≡ 0 → Leads s
  known_right w = leads_right s (subst (λ h. HeadAt h s.at) e w)

  pub known_led : Leads s → Led h s.at s.wrong
  known_led led =
      record {
        numbers = known_numbers led;
        number = ⊎_elim inl (λ some. inr (rw e (wrong_led s led some).0)) (eq_or_ne s.wrong 0);
        byte = λ some. rw e (wrong_led s led some).1;
      }

  pub led_known : Led h s.at s.wrong → Leads s
  led_known w =
      ⊎_elim (known_right w.numbers)
      (λ number.
      leads_wrong s (subst (λ h. HeadAt h s.at) e w.numbers) (number ∙ ap (λ (h : Head). number_at h.kind (heads.total h) s.at) e)
      (subst (λ h. CanBeWrong h s.at) e (w.byte (λ none. never_zero (refusal_at (head_size h.kind) (heads.total h) s.at) (sym number ∙ none)))))
      w.number
