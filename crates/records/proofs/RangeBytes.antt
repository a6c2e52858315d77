-- Which bytes a number of a range may have: those of such a number pass their tests, bytes that pass are such a number's, and after any bytes
-- that pass some byte does.
use mathlib.Core.Path.{◌≡◌, refl, sym, ap, ◌∙◌}
use mathlib.Core.Bool.{Bool, true, false}
use mathlib.Core.List.{List}
use mathlib.Core.Logic.{◌⊎◌, inl, ⊎_elim}
use Prim.{Unit, tt}
use Prim.Native.Nat.{ℕ, zero, suc, ◌+◌, ◌-◌, ◌*◌, ◌/◌, ◌%◌, ◌^◌, ◌≤◌, ◌<◌}
use native.Mathlib.Nat.{pow-succ', zero-add}
use native.Mathlib.Omega.{arith}
use lib.Dec.{leb}
use lib.ListN.{get_or}
use borrow.Author.Tests.{leb-true, le-leb}
use Rattle.letters.specs.Places.{both}
use Rattle.letters.proofs.Cases.{eq_or_ne}
use Rattle.records.specs.Records.{number_in}
use Rattle.records.specs.Steps.Ranges.{least_left, most_left, low_stands, range_tests}
use Rattle.records.proofs.NumberBytes.{first_index, next_index}

both_held : (a b : Bool) → both a b ≡ true → (a ≡ true) × (b ≡ true)
both_held true b e = (refl, e)
both_held false b e = (e, let z : ◌≡◌ {A = ℕ} 0 1 = ap (λ c. both_number c) e in absurd (omega arith))
  where
    both_number : Bool → ℕ
    both_number true = 1
    both_number false = 0

-- the test of a lowest byte
pub low_stands_lem : (lo hi byte : ℕ) → byte ≤ hi → least_left lo byte ≤ most_left hi byte → low_stands lo hi byte ≡ true
unfolding low_stands
low_stands_lem lo hi byte h l = simp (le-leb byte hi h, le-leb (least_left lo byte) (most_left hi byte) l)

pub stands_low : (lo hi byte : ℕ) → low_stands lo hi byte ≡ true → (byte ≤ hi) × (least_left lo byte ≤ most_left hi byte)
unfolding low_stands
stands_low lo hi byte e =
    let w = both_held (leb byte hi) (leb (least_left lo byte) (most_left hi byte)) e in
    (leb-true byte hi w.0, leb-true (least_left lo byte) (most_left hi byte) w.1)

-- the bytes of a number in range pass
pub range_held : (s lo hi x : ℕ) → lo ≤ x → x ≤ hi → (q : ℕ) → get_or (range_tests s lo hi x) q true ≡ true
unfolding range_tests
range_held zero lo hi x l h q = refl
range_held (suc s) lo hi x l h zero = low_stands_lem lo hi (x % 256) (omega arith) (omega arith)
range_held (suc s) lo hi x l h (suc q) = range_held s (least_left lo (x % 256)) (most_left hi (x % 256)) (x / 256) (omega arith) (omega arith) q

-- past them there is no test
pub range_past : (s lo hi x q : ℕ) → s ≤ q → get_or (range_tests s lo hi x) q true ≡ true
unfolding range_tests
range_past zero lo hi x q h = refl
range_past (suc s) lo hi x zero h = absurd (omega arith)
range_past (suc s) lo hi x (suc q) h = range_past s (least_left lo (x % 256)) (most_left hi (x % 256)) (x / 256) q (omega arith)

-- and a number whose bytes all pass is in range
pub range_told :
    (s lo hi x : ℕ) → lo ≤ hi → hi < 256 ^ s → x < 256 ^ s → ((q : ℕ) → q < s → get_or (range_tests s lo hi x) q true ≡ true)
    → (lo ≤ x) × (x ≤ hi)
unfolding range_tests
range_told zero lo hi x some room small t = (omega arith, omega arith)
range_told (suc s) lo hi x some room small t =
    let w = stands_low lo hi (x % 256) (t 0 (omega arith)) in
    let rest =
    range_told s (least_left lo (x % 256)) (most_left hi (x % 256)) (x / 256) w.1 (omega (arith, pow-succ' 256 s)) (omega (arith, pow-succ' 256 s))
    (λ q l. t (suc q) (omega arith))
    in
    (omega (arith, rest, w), omega (arith, rest, w))

-- the number of bytes with what was carried over, taken apart: its lowest byte, and the rest with what is carried on
low_of : (c b r : ℕ) → (c + (b + 256 * r)) % 256 ≡ (c + b) % 256
low_of c b r = omega arith

rest_of : (c b r : ℕ) → (c + (b + 256 * r)) / 256 ≡ (c + b) / 256 + r
rest_of c b r = omega arith

-- the test of a byte looks at no later one, also where c was carried over
range_carried :
    (s lo hi c at : ℕ) (xs zs : List ℕ) (q : ℕ) → ((i : ℕ) → i ≤ q → get_or xs (at + i) 0 ≡ get_or zs (at + i) 0)
    → get_or (range_tests s lo hi (c + number_in s at xs)) q true ≡ get_or (range_tests s lo hi (c + number_in s at zs)) q true
unfolding range_tests
range_carried zero lo hi c at xs zs q e = refl
range_carried (suc s) lo hi c at xs zs zero e =
    let same : get_or xs at 0 ≡ get_or zs at 0 = omega (arith, first_index xs at, first_index zs at, e 0 (omega arith)) in
    simp (low_of, same)
range_carried (suc s) lo hi c at xs zs (suc q) e =
    let same : get_or xs at 0 ≡ get_or zs at 0 = omega (arith, first_index xs at, first_index zs at, e 0 (omega arith)) in
    simp (low_of, rest_of, same)
    (range_carried s (least_left lo ((c + get_or zs at 0) % 256)) (most_left hi ((c + get_or zs at 0) % 256)) ((c + get_or zs at 0) / 256) (suc at) xs zs q
    (λ i l. omega (arith, next_index xs at i, next_index zs at i, e (suc i) (omega arith))))

pub range_same :
    (s lo hi at : ℕ) (xs zs : List ℕ) (q : ℕ) → ((i : ℕ) → i ≤ q → get_or xs (at + i) 0 ≡ get_or zs (at + i) 0)
    → get_or (range_tests s lo hi (number_in s at xs)) q true ≡ get_or (range_tests s lo hi (number_in s at zs)) q true
range_same s lo hi at xs zs q e =
    ap (λ x. get_or (range_tests s lo hi x) q true) (sym (zero-add (number_in s at xs)))
    ∙ range_carried s lo hi 0 at xs zs q e
    ∙ ap (λ x. get_or (range_tests s lo hi x) q true) (zero-add (number_in s at zs))

-- the test at the lowest byte and past it, where these are bytes
module _ (s lo hi at : ℕ) (xs : List ℕ) (byte : get_or xs at 0 < 256) where
  first_test : get_or (range_tests (suc s) lo hi (number_in (suc s) at xs)) 0 true ≡ low_stands lo hi (get_or xs at 0)
  unfolding range_tests
  first_test = ap (low_stands lo hi) (omega arith)

  later_test :
      (q : ℕ)
      → get_or (range_tests (suc s) lo hi (number_in (suc s) at xs)) (suc q) true
      ≡ get_or (range_tests s (least_left lo (get_or xs at 0)) (most_left hi (get_or xs at 0)) (number_in s (suc at) xs)) q true
  unfolding range_tests
  later_test q =
      let low : (get_or xs at 0 + 256 * number_in s (suc at) xs) % 256 ≡ get_or xs at 0 = omega arith in
      let rest : (get_or xs at 0 + 256 * number_in s (suc at) xs) / 256 ≡ number_in s (suc at) xs = omega arith in
      rw (low, rest)

-- the first tests are those of a number of fewer bytes
pub range_short :
    (s m lo hi at : ℕ) (xs : List ℕ) (q : ℕ) → ((i : ℕ) → get_or xs i 0 < 256) → m ≤ s → q < m
    → get_or (range_tests s lo hi (number_in s at xs)) q true ≡ get_or (range_tests m lo hi (number_in m at xs)) q true
range_short s zero lo hi at xs q b h l = absurd (omega arith)
range_short zero (suc m) lo hi at xs q b h l = absurd (omega arith)
range_short (suc s) (suc m) lo hi at xs zero b h l = first_test s lo hi at xs (b at) ∙ sym (first_test m lo hi at xs (b at))
range_short (suc s) (suc m) lo hi at xs (suc q) b h l =
    later_test s lo hi at xs (b at) q
    ∙ range_short s m (least_left lo (get_or xs at 0)) (most_left hi (get_or xs at 0)) (suc at) xs q b (omega arith) (omega arith)
    ∙ sym (later_test m lo hi at xs (b at) q)

-- after bytes that pass, the most that is left has a lowest byte that does
pub range_next :
    (s lo hi at : ℕ) (xs : List ℕ) (q : ℕ) → lo ≤ hi → q < s → ((i : ℕ) → i < q → get_or xs (at + i) 0 < 256)
    → ((i : ℕ) → i < q → get_or (range_tests s lo hi (number_in s at xs)) i true ≡ true)
    → (byte : ℕ) × (byte < 256)
    × ((zs : List ℕ) → ((i : ℕ) → i < q → get_or zs (at + i) 0 ≡ get_or xs (at + i) 0) → get_or zs (at + q) 0 ≡ byte
    → get_or (range_tests s lo hi (number_in s at zs)) q true ≡ true)
range_next zero lo hi at xs q some h b t = absurd (omega arith)
range_next (suc s) lo hi at xs zero some h b t = (
  hi % 256,
  omega arith,
  λ zs same e.
      let here : get_or zs at 0 ≡ hi % 256 = sym (first_index zs at) ∙ e in
      first_test s lo hi at zs (omega arith) ∙ ap (low_stands lo hi) here ∙ low_stands_lem lo hi (hi % 256) (omega arith) (omega arith),
)
range_next (suc s) lo hi at xs (suc q) some h b t =
    let low : get_or xs at 0 < 256 = omega (arith, first_index xs at, b 0 (omega arith)) in
    let w = stands_low lo hi (get_or xs at 0) (sym (first_test s lo hi at xs low) ∙ t 0 (omega arith)) in
    let n =
    range_next s (least_left lo (get_or xs at 0)) (most_left hi (get_or xs at 0)) (suc at) xs q w.1 (omega arith)
    (λ i l. omega (arith, next_index xs at i, b (suc i) (omega arith)))
    (λ i l. sym (later_test s lo hi at xs low i) ∙ t (suc i) (omega arith))
    in (
      n.0,
      n.1,
      λ zs same e.
          let here : get_or zs at 0 ≡ get_or xs at 0 = omega (arith, first_index xs at, first_index zs at, same 0 (omega arith)) in
          later_test s lo hi at zs (omega arith) q
          ∙ ap (λ x. get_or (range_tests s (least_left lo x) (most_left hi x) (number_in s (suc at) zs)) q true) here
          ∙ n.2 zs (λ i l. omega (arith, next_index xs at i, next_index zs at i, same (suc i) (omega arith))) (next_index zs at q ∙ e),
    )

-- Where 0 and 255 can both stand, any byte can: so it is for a range that begins at 0 or 1, that has 256 numbers, or that ends below 255; and for what is
-- left of it.
unfoldable pub AnyBetween : ℕ → ℕ → ℕ → Type 0
AnyBetween zero lo hi = Unit {0}
AnyBetween (suc s) lo hi =
    ((lo ≤ 1) ⊎ ((lo + 255 ≤ hi) ⊎ (hi < 255))) × ((byte : ℕ) → byte < 256 → AnyBetween s (least_left lo byte) (most_left hi byte))

pub least_of_one : (s lo hi : ℕ) → lo ≤ 1 → AnyBetween s lo hi
unfolding AnyBetween
least_of_one zero lo hi h = tt
least_of_one (suc s) lo hi h = (inl h, λ byte l. least_of_one s (least_left lo byte) (most_left hi byte) (omega arith))

any_low :
    (lo hi byte : ℕ) → (lo ≤ 1) ⊎ ((lo + 255 ≤ hi) ⊎ (hi < 255)) → byte < 256 → low_stands lo hi 0 ≡ true → low_stands lo hi 255 ≡ true
    → low_stands lo hi byte ≡ true
any_low lo hi byte c l low high =
    let w = stands_low lo hi 0 low in
    let v = stands_low lo hi 255 high in
    ⊎_elim (λ one. ⊎_elim (λ e. rw e low) (λ some. low_stands_lem lo hi byte (omega (arith, v)) (omega (arith, v))) (eq_or_ne byte 0))
    (⊎_elim (λ wide. low_stands_lem lo hi byte (omega (arith, v)) (omega arith)) (λ short. absurd (omega (arith, v))))
    c

pub range_any :
    (s lo hi at : ℕ) (xs ys zs : List ℕ) (q : ℕ) → AnyBetween s lo hi → ((i : ℕ) → i < q → get_or zs (at + i) 0 < 256)
    → ((i : ℕ) → i < q → (get_or xs (at + i) 0 ≡ get_or zs (at + i) 0) × (get_or ys (at + i) 0 ≡ get_or zs (at + i) 0))
    → get_or xs (at + q) 0 ≡ 0 → get_or ys (at + q) 0 ≡ 255 → get_or zs (at + q) 0 < 256
    → get_or (range_tests s lo hi (number_in s at xs)) q true ≡ true → get_or (range_tests s lo hi (number_in s at ys)) q true ≡ true
    → get_or (range_tests s lo hi (number_in s at zs)) q true ≡ true
unfolding AnyBetween range_tests
range_any zero lo hi at xs ys zs q any b same ex ey ez low high = refl
range_any (suc s) lo hi at xs ys zs zero any b same ex ey ez low high =
    let x : get_or xs at 0 ≡ 0 = sym (first_index xs at) ∙ ex in
    let y : get_or ys at 0 ≡ 255 = sym (first_index ys at) ∙ ey in
    let z : get_or zs at 0 < 256 = omega (arith, first_index zs at) in
    first_test s lo hi at zs z
    ∙ any_low lo hi (get_or zs at 0) any.0 z
    (ap (low_stands lo hi) (sym x) ∙ sym (first_test s lo hi at xs (omega arith)) ∙ low)
    (ap (low_stands lo hi) (sym y) ∙ sym (first_test s lo hi at ys (omega arith)) ∙ high)
range_any (suc s) lo hi at xs ys zs (suc q) any b same ex ey ez low high =
    let z : get_or zs at 0 < 256 = omega (arith, first_index zs at, b 0 (omega arith)) in
    let w = same 0 (omega arith) in
    let x : get_or xs at 0 ≡ get_or zs at 0 = omega (arith, first_index xs at, first_index zs at, w) in
    let y : get_or ys at 0 ≡ get_or zs at 0 = omega (arith, first_index ys at, first_index zs at, w) in
    later_test s lo hi at zs z q
    ∙ range_any s (least_left lo (get_or zs at 0)) (most_left hi (get_or zs at 0)) (suc at) xs ys zs q (any.1 (get_or zs at 0) z)
    (λ i l. omega (arith, next_index zs at i, b (suc i) (omega arith)))
    (λ i l. (next_index xs at i ∙ (same (suc i) (omega arith)).0 ∙ sym (next_index zs at i), next_index ys at i ∙ (same (suc i) (omega arith)).1 ∙ sym (next_index zs at i)))
    (next_index xs at q ∙ ex) (next_index ys at q ∙ ey) (omega (arith, next_index zs at q))
    (ap (λ v. get_or (range_tests s (least_left lo v) (most_left hi v) (number_in s (suc at) xs)) q true) (sym x) ∙ sym (later_test s lo hi at xs (omega arith) q) ∙ low)
    (ap (λ v. get_or (range_tests s (least_left lo v) (most_left hi v) (number_in s (suc at) ys)) q true) (sym y) ∙ sym (later_test s lo hi at ys (omega arith) q) ∙ high)

-- the tests as the code takes them apart
pub lowest_test : (s lo hi x q : ℕ) → 1 ≤ s → q ≡ 0 → get_or (range_tests s lo hi x) q true ≡ low_stands lo hi (x % 256)
unfolding range_tests
lowest_test zero lo hi x q h e = absurd (omega arith)
lowest_test (suc s) lo hi x q h e = rw e

pub later_tests :
    (s lo hi x q : ℕ) → 1 ≤ s → 1 ≤ q
    → get_or (range_tests s lo hi x) q true ≡ get_or (range_tests (s - 1) (least_left lo (x % 256)) (most_left hi (x % 256)) (x / 256)) (q - 1) true
unfolding range_tests
later_tests zero lo hi x q h l = absurd (omega arith)
later_tests (suc s) lo hi x zero h l = absurd (omega arith)
later_tests (suc s) lo hi x (suc q) h l =
    let a : suc s - 1 ≡ s = omega arith in
    let b : suc q - 1 ≡ q = omega arith in
    rw (a, b)
