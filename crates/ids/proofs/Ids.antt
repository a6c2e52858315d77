-- Lists of ids: what the checks on them say of each index, and how a loop finds it out from the ids that are left.
use mathlib.Core.Path.{◌≡◌, refl, sym}
use mathlib.Core.Bool.{Bool, true, false}
use mathlib.Core.List.{List, [], ◌∷◌}
use Prim.Native.Nat.{ℕ, zero, suc, ◌+◌, ◌-◌, ◌≤◌, ◌<◌}
use mathlib.Core.Logic.{⊎_elim}
use native.Mathlib.Nat.{eq-or-lt_of_le, le_of_suc-le-suc}
use native.Mathlib.Numerals.{add-one}
use native.Mathlib.Omega.{arith}
use lib.Dec.{ltb, eqb}
use lib.ListN.{length, get_or, drop, drop_of_length-le}
use lib.Seq.{drop-cons}
use borrow.Author.Tests.{ltb-true, eqb-false}
use Rattle.std.specs.List.{IsAnyAnswer}
use Rattle.std.proofs.lemmas.Bool.{false≢true}
use Rattle.std.proofs.lemmas.List.Recursion.{or_is}
use Rattle.letters.specs.Places.{both, either}
use Rattle.group.specs.Ranges.{between}
use Rattle.ids.specs.Ids.{all_in_range, falling, among}
use Rattle.group.proofs.Refusals.{both_true}
use Rattle.group.proofs.InRange.{between_true}

-- the ids from index q on: the one at q, and the rest
pub ids_from : (ids : List ℕ) (q : ℕ) → q < length ids → drop q ids ≡ get_or ids q 0 ∷ drop (q + 1) ids
ids_from ids q h = rw add-one (drop-cons ids q 0 h)

pub all_next :
    (n : ℕ) (ids : List ℕ) (q : ℕ) → q < length ids
    → all_in_range n (drop q ids) ≡ both (between 1 n (get_or ids q 0)) (all_in_range n (drop (q + 1) ids))
unfolding all_in_range
all_next n ids q h = rw (ids_from ids q h)

-- nothing is left
pub none_left : (ids : List ℕ) (q : ℕ) → length ids ≤ q → drop q ids ≡ []
none_left ids q h = drop_of_length-le ids h

-- what the list's own search answers is whether f is among the ids
pub among_from : (f : ℕ) (ids : List ℕ) (r : Bool) → IsAnyAnswer (λ y b. eqb y f ≡ b) ids r → r ≡ among f ids
unfolding among
among_from f ids true h =
    or_is (among f) (λ i. eqb i f) refl (λ i ids. refl) ids 0 true (λ e. (h.0, h.1, h.2 0)) (λ e. absurd (false≢true (sym e)))
among_from f ids false h =
    or_is (among f) (λ i. eqb i f) refl (λ i ids. refl) ids 0 false (λ e. absurd (false≢true e)) (λ e i l. h i 0 (omega arith) l)

pub falling_next :
    (ids : List ℕ) (i : ℕ) → 1 ≤ i → i < length ids
    → falling (drop (i - 1) ids) ≡ both (ltb (get_or ids i 0) (get_or ids (i - 1) 0)) (falling (drop i ids))
unfolding falling
falling_next ids i one h =
    let before : i - 1 < length ids = omega arith in
    let next : i - 1 + 1 ≡ i = omega arith in
    rw (ids_from ids (i - 1) before, next, ids_from ids i h)

pub falling_end : (ids : List ℕ) (q : ℕ) → length ids ≤ q + 1 → falling (drop q ids) ≡ true
unfolding falling
falling_end [] zero h = refl
falling_end [] (suc q) h = refl
falling_end (i ∷ []) zero h = refl
falling_end (i ∷ (j ∷ ids)) zero h = absurd (omega arith)
falling_end (i ∷ ids) (suc q) h = falling_end ids q (omega arith)

-- ids in range, by index
pub in_range_at :
    (n : ℕ) (ids : List ℕ) → all_in_range n ids ≡ true → (q : ℕ) → q < length ids → (1 ≤ get_or ids q 0) × (get_or ids q 0 ≤ n)
unfolding all_in_range
in_range_at n [] e q h = absurd (omega arith)
in_range_at n (i ∷ ids) e zero h = between_true 1 n i (both_true (between 1 n i) (all_in_range n ids) e).0
in_range_at n (i ∷ ids) e (suc q) h =
    in_range_at n ids (both_true (between 1 n i) (all_in_range n ids) e).1 q (omega arith)

-- falling ids: each is below the one before it, and so below any before it
falls_next : (ids : List ℕ) → falling ids ≡ true → (q : ℕ) → suc q < length ids → get_or ids (suc q) 0 < get_or ids q 0
unfolding falling
falls_next [] e q h = absurd (omega arith)
falls_next (i ∷ []) e q h = absurd (omega arith)
falls_next (i ∷ (j ∷ ids)) e zero h = ltb-true j i (both_true (ltb j i) (falling (j ∷ ids)) e).0
falls_next (i ∷ (j ∷ ids)) e (suc q) h = falls_next (j ∷ ids) (both_true (ltb j i) (falling (j ∷ ids)) e).1 q (omega arith)

pub falls_at :
    (ids : List ℕ) → falling ids ≡ true → (a b : ℕ) → a < b → b < length ids → get_or ids b 0 < get_or ids a 0
falls_at ids e a zero h l = absurd (omega arith)
falls_at ids e a (suc b) h l =
    ⊎_elim (λ same. rw same (falls_next ids e b l)) (λ below. omega (arith, falls_at ids e a b below (omega arith), falls_next ids e b l))
    (eq-or-lt_of_le (le_of_suc-le-suc h))

-- neither test holds where one of them doesn't
either_false : (a b : Bool) → either a b ≡ false → (a ≡ false) × (b ≡ false)
either_false true b e = (e, cc)
either_false false b e = (refl, e)

-- f is at no index of ids that it is not among
pub not_at : (f : ℕ) (ids : List ℕ) → among f ids ≡ false → (q : ℕ) → q < length ids → get_or ids q 0 ≡ f → ⊥
unfolding among
not_at f [] e q h s = omega arith
not_at f (i ∷ ids) e zero h s = eqb-false i f (either_false (eqb i f) (among f ids) e).0 s
not_at f (i ∷ ids) e (suc q) h s = not_at f ids (either_false (eqb i f) (among f ids) e).1 q (omega arith) s
