-- Taking bytes where the head is in: it changes no more. Those that are stepped over change but how many stand.
use mathlib.Core.Path.{◌≡◌, refl, sym, ap, subst, ◌∙◌}
use mathlib.Core.List.{List}
use Prim.Native.Nat.{ℕ, ◌+◌, ◌-◌, ◌^◌, ◌<◌}
use native.Mathlib.Omega.{arith}
use lib.ListN.{length, take, drop}
use Rattle.heads.specs.declared.Head.{Head}
use Rattle.heads.specs.Heads.{heads}
use Rattle.heads.specs.Steps.Partly.{head_after}
use Rattle.searching.specs.Steps.Search.{StopsFrom}
use Rattle.arriving.specs.declared.Arriving.{Arriving}
use Rattle.reaching.specs.Numbers.{number_at}
use Rattle.arriving.specs.States.{state_with, head_so_far, Leads}
use Rattle.arriving.specs.Calls.{Takes}
use Rattle.reaching.specs.Steps.Reaching.{Within, Stepped, HeadAt}
use Rattle.arriving.specs.Steps.Reaching.{PastHead, StepsOver}
use Rattle.reaching.proofs.BytesBehind.{whole_grown}
use Rattle.arriving.proofs.Led.{leads_right}
use Rattle.reaching.proofs.Stepping.{all_stepped, goes_on}
use Rattle.reaching.proofs.Near.{within_numbers}
use Rattle.arriving.proofs.Taking.{takes_none, takes_all, takes_some}

module _ (s : Arriving) (T : ℕ) (w : PastHead s T) where
  numbers : HeadAt (head_so_far s) s.at
  numbers = within_numbers (head_so_far s) s.at w.long w.small (subst (λ n. Within s.kind n s.at) w.total w.within)

  leads : Leads s
  leads = leads_right s numbers w.none

  grown : (ys : List ℕ) → head_so_far s ≡ head_after (head_so_far s) s.at ys
  grown ys = sym (whole_grown (head_so_far s) s.at (numbers.whole w.long) w.long ys)

  module _ (ys : List ℕ) (q : ℕ) (stops : StopsFrom s.at (head_so_far s) ys q) where
    pub past_all : q ≡ length ys → Takes s ys (state_with (s.at + q) 0 (head_so_far s))
    past_all all = takes_all s ys leads w.none q (head_so_far s) (grown ys) stops all

    pub past_some : q < length ys → Takes s ys (state_with (s.at + q) (number_at s.kind (heads.total (head_so_far s)) (s.at + q)) (head_so_far s))
    past_some some = takes_some s ys leads w.none q (head_so_far s) (grown ys) stops some (head_so_far s) (grown (take q ys))

  -- all bytes are stepped over
  pub past_stepped : (ys : List ℕ) (q : ℕ) → Stepped s.kind s.at T ys q → q ≡ length ys → Takes s ys (state_with (s.at + q) s.wrong (head_so_far s))
  past_stepped ys q stepped all =
      subst (λ flag. Takes s ys (state_with (s.at + q) flag (head_so_far s))) (sym w.none)
      (past_all ys q (all_stepped s.kind s.at T (head_so_far s) ys q refl w.total stepped all) all)

  -- or the first ones, and the search goes on
  module _ (ys : List ℕ) (n q : ℕ) (stepped : Stepped s.kind s.at T ys n) (h : Head) (e : h ≡ head_so_far s)
      (stops : StopsFrom (s.at + n) h (take (length ys - n) (drop n ys)) q) where
    all_stops : StopsFrom s.at (head_so_far s) ys (n + q)
    all_stops = goes_on s.at (head_so_far s) ys n q stepped.within (stepped.stand (head_so_far s) refl w.total) (rw (sym e) stops)

    pub searched_all : n + q ≡ length ys → (r : Arriving) → r ≡ state_with (s.at + (n + q)) 0 h → Takes s ys r
    searched_all all r is = subst (Takes s ys) (sym (is ∙ ap (state_with (s.at + (n + q)) 0) e)) (past_all ys (n + q) all_stops all)

    pub searched_some : (n + q ≡ length ys → ⊥) → (r : Arriving) → r ≡ state_with (s.at + (n + q)) (number_at h.kind (heads.total h) (s.at + (n + q))) h → Takes s ys r
    searched_some more r is =
        subst (Takes s ys) (sym (is ∙ ap (λ (h : Head). state_with (s.at + (n + q)) (number_at h.kind (heads.total h) (s.at + (n + q))) h) e)) (past_some ys (n + q) all_stops (omega (arith, all_stops.within, more)))

-- where some bytes are stepped over, the head is in
pub some_steps :
    (s : Arriving) (ys : List ℕ) (q : ℕ) → StepsOver s ys q → (q ≡ 0 → ⊥) → (T : ℕ) → T ≡ heads.total (head_so_far s)
    → PastHead s T × Stepped s.kind s.at T ys q
some_steps s ys _ StepsOver.none n T e = absurd (n refl)
some_steps s ys q (StepsOver.some U _ w st) n T e = subst (λ t. PastHead s t × Stepped s.kind s.at t ys q) (w.total ∙ sym e) (w, st)

-- and their number has room
pub steps_near : (s : Arriving) (ys : List ℕ) (q : ℕ) → StepsOver s ys q → s.at < 2 ^ 64 → s.at + q < 2 ^ 64
steps_near s ys _ StepsOver.none h = omega arith
steps_near s ys q (StepsOver.some T _ w st) h = omega (arith, st.near)

-- and where all of them are, only how many stand changes
pub all_steps : (s : Arriving) (ys : List ℕ) (q : ℕ) → StepsOver s ys q → q ≡ length ys → Takes s ys (state_with (s.at + q) s.wrong (head_so_far s))
all_steps s ys _ StepsOver.none all =
    let same : s.at + 0 ≡ s.at = omega arith in
    rw same (takes_none s ys (sym all))
all_steps s ys q (StepsOver.some T _ w st) all = past_stepped s T w ys q st all
