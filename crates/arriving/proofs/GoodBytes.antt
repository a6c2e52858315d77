-- How many bytes can stand: the count in a state is where the search stops, and so the place of document 01's first wrong byte.
use mathlib.Core.Path.{◌≡◌, refl, subst}
use mathlib.Core.Bool.{Bool, true, false, cond}
use mathlib.Core.List.{List}
use mathlib.Core.Logic.{◌↔◌, ⊎_elim}
use Prim.Native.Nat.{ℕ, zero, suc, ◌+◌, ◌≤◌, ◌<◌}
use native.Mathlib.Omega.{arith}
use lib.ListN.{length}
use Rattle.letters.specs.Lanes.{Bytes}
use Rattle.letters.proofs.Cases.{le_or_lt}
use Rattle.layout.specs.Steps.Stands.{stands}
use Rattle.heads.specs.Heads.{heads}
use Rattle.judging.specs.Judging.{CanStandTo}
use Rattle.searching.specs.Steps.Search.{Stops}
use Rattle.judging.proofs.Verdicts.{stand_to, stops_at, stops_once}
use Rattle.arriving.specs.States.{up_to, good_bytes}

-- from i on, so many at most, up to q
record Run (f : ℕ → Bool) (i count q : ℕ) : Type 0 where
  from : i ≤ q
  until : q ≤ i + count
  before : (p : ℕ) → i ≤ p → p < q → f p ≡ true
  stop : q < i + count → f q ≡ false

runs : (f : ℕ → Bool) (i count : ℕ) → Run f i count (up_to f i count)
unfolding up_to
runs f i zero =
    record { from = omega arith; until = omega arith; before = λ p lo hi. absurd (omega arith); stop = λ h. absurd (omega arith) }
runs f i (suc count) = by (f i) refl (runs f (suc i) count)
  where
    by : (b : Bool) → f i ≡ b → Run f (suc i) count (up_to f (suc i) count) → Run f i (suc count) (cond b (up_to f (suc i) count) i)
    by true e w =
        record {
          from = omega (arith, w.from);
          until = omega (arith, w.until);
          before = λ p lo hi. ⊎_elim (λ later. w.before p later hi) (λ now. let here : p ≡ i = omega arith in rw here e) (le_or_lt (suc i) p);
          stop = λ h. w.stop (omega arith);
        }
    by false e w =
        record { from = omega arith; until = omega arith; before = λ p lo hi. absurd (omega arith); stop = λ h. e }

pub good_stops : (xs : List ℕ) → Stops xs (good_bytes xs)
good_stops xs =
    let w = runs (stands heads xs) 0 (length xs) in
    record { within = omega (arith, w.until); before = λ p h. w.before p (omega arith) h; wrong = λ h. w.stop (omega arith) }

pub good_is : (xs : List ℕ) (q : ℕ) → Stops xs q → good_bytes xs ≡ q
good_is xs q s = stops_once xs (good_bytes xs) q (good_stops xs) s

-- In document 01's words: the bytes counted can stand, and where there is one more, it is the first that no share has there.
pub good_exactly : (xs : List ℕ) → Bytes xs → (q : ℕ) → (good_bytes xs ≡ q) ↔ CanStandTo xs q
good_exactly xs bytes q = (
  λ e. subst (CanStandTo xs) e (stand_to xs bytes (good_bytes xs) (good_stops xs)),
  λ w. good_is xs q (stops_at xs bytes q w),
)
