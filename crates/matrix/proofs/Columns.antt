-- Where the sequences of each column stand in the file: column u has min(u,k) of them, after those of the columns before it.
use mathlib.Core.Path.{◌≡◌, refl, sym, ap, ap₂, ◌∙◌}
use mathlib.Core.Logic.{⊎_elim}
use Prim.Native.Nat.{ℕ, zero, suc, ◌+◌, ◌-◌, ◌*◌, ◌/◌, ◌≤◌, ◌<◌, min}
use native.Mathlib.Nat.{mul_comm, add-mul, mul-add, zero-mul, one-mul, mul-one, add-zero, mul-le-mul_right, le_of_eq, eq-or-lt_of_le, le_of_suc-le-suc}
use native.Mathlib.Numerals.{add-one}
use native.Mathlib.Omega.{arith}
use borrow.Author.Tests.{le-leb, lt-leb}
use Rattle.letters.proofs.Cases.{le_or_lt}
use Rattle.group.specs.declared.Group.{Group}
use Rattle.group.specs.Ranges.{InRange}
use Rattle.lengths.specs.Lengths.{sequences, file_letters}
use Rattle.matrix.specs.Matrix.{before, entry_number}

-- (w+2)(w+1) = (w+1)w + 2(w+1)
next_product : (w : ℕ) → (w + 2) * (w + 1) ≡ (w + 1) * w + 2 * (w + 1)
next_product w = add-mul w 2 (w + 1) ∙ ap (λ x. x + 2 * (w + 1)) (mul_comm w (w + 1))

-- u(u-1), of which B and the layout take halves
abbrev pairs : ℕ → ℕ
pairs u = u * (u - 1)

pairs_next : (u : ℕ) → 1 ≤ u → pairs (u + 1) ≡ pairs u + 2 * u
pairs_next u lo =
    ap₂ ◌*◌ up one ∙ next_product (u - 1) ∙ ap₂ (λ a b. a * (u - 1) + 2 * b) back back
  where
    up : u + 1 ≡ u - 1 + 2
    up = omega arith

    one : u + 1 - 1 ≡ u - 1 + 1
    one = omega arith

    back : u - 1 + 1 ≡ u
    back = omega arith

pairs_even : (u : ℕ) → pairs (u + 1) ≡ 2 * (pairs (u + 1) / 2)
pairs_even zero = refl
pairs_even (suc u) = omega (arith, pairs_even u, pairs_next (suc u) (omega arith), ap pairs (add-one u), ap (λ m. pairs m / 2) (add-one u))

-- k(k+1) is the next such product
risen : (k : ℕ) → k * (k + 1) ≡ pairs (k + 1)
risen k = mul_comm k (k + 1) ∙ ap (λ x. (k + 1) * x) same
  where
    same : k ≡ k + 1 - 1
    same = omega arith

pub before_low : (k u : ℕ) → u ≤ k → before k u ≡ pairs u / 2
unfolding before
before_low k u h = simp (le-leb u k h)

pub before_high : (k u : ℕ) → k < u → before k u ≡ k * (k + 1) / 2 + (u - k - 1) * k
unfolding before
before_high k u h = simp (lt-leb u k h)

pub before_first : (k : ℕ) → 1 ≤ k → before k 1 ≡ 0
before_first k h = before_low k 1 h

-- column u has min(u,k) sequences
pub before_next : (k u : ℕ) → 1 ≤ k → 1 ≤ u → before k (u + 1) ≡ before k u + min u k
before_next k u lk lu =
    ⊎_elim
    (λ h. omega (arith, before_low k (u + 1) h, before_low k u (omega arith), pairs_next u lu))
    (λ h.
    omega
    (arith, before_high k (u + 1) h, risen k, past h))
    (le_or_lt (u + 1) k)
  where
    -- past column k each column has k
    past : k < u + 1 → before k u + k ≡ pairs (k + 1) / 2 + (u + 1 - k - 1) * k
    past h =
        ⊎_elim
        (λ e.
        let none : u + 1 - k - 1 ≡ 0 = omega arith in
        omega (arith, before_low k u (omega arith), ap pairs e, ap (λ m. pairs m / 2) e, pairs_next k lk, ap (λ m. m * k) none, zero-mul k))
        (λ l.
        let more : u + 1 - k - 1 ≡ (u - k - 1) + 1 = omega arith in
        omega (arith, before_high k u l, risen k, ap (λ m. m * k) more, add-mul (u - k - 1) 1 k, one-mul k))
        (eq-or-lt_of_le (le_of_suc-le-suc (rw add-one at h)))

-- and all columns together have B
pub before_all : (g : Group) → InRange g → before g.k (g.d + 1) ≡ sequences g
unfolding sequences
before_all g r =
    omega (
      arith,
      before_high g.k (g.d + 1) (omega arith),
      risen g.k,
      pairs_next g.k (omega arith),
      even,
      square,
      rest,
      ap (λ m. m * g.k) less,
    )
  where
    less : g.d + 1 - g.k - 1 ≡ g.d - g.k
    less = omega arith

    -- kd = kk + (d-k)k
    rest : g.k * g.d ≡ g.k * g.k + (g.d - g.k) * g.k
    rest = ap (λ m. g.k * m) back ∙ mul-add g.k g.k (g.d - g.k) ∙ ap (λ m. g.k * g.k + m) (mul_comm g.k (g.d - g.k))
      where
        back : g.d ≡ g.k + (g.d - g.k)
        back = omega arith

    -- kk = k(k-1) + k
    square : g.k * g.k ≡ pairs g.k + g.k
    square = ap (λ m. g.k * m) back ∙ mul-add g.k (g.k - 1) 1 ∙ ap (λ m. pairs g.k + m) (mul-one g.k)
      where
        back : g.k ≡ g.k - 1 + 1
        back = omega arith

    even : pairs g.k ≡ 2 * (pairs g.k / 2)
    even = ap pairs back ∙ pairs_even (g.k - 1) ∙ ap (λ m. 2 * (pairs m / 2)) (sym back)
      where
        back : g.k ≡ g.k - 1 + 1
        back = omega arith

-- no column stands before an earlier one
pub before_rises : (k u m : ℕ) → 1 ≤ k → 1 ≤ u → before k u ≤ before k (u + m)
before_rises k u zero lk lu = le_of_eq (ap (before k) (sym (add-zero u)))
before_rises k u (suc m) lk lu =
    omega (arith, before_rises k u m lk lu, before_next k (u + m) lk (omega arith), ap (before k) (more u m))
  where
    more : (u m : ℕ) → u + m + 1 ≡ u + suc m
    more u m = omega arith

-- one column's sequences end before the next one's start
pub before_apart : (k u w : ℕ) → 1 ≤ k → 1 ≤ u → u < w → before k u + min u k ≤ before k w
before_apart k u w lk lu h =
    omega (arith, before_next k u lk lu, before_rises k (u + 1) (w - (u + 1)) lk (omega arith), ap (before k) (reach u w h))
  where
    reach : (u w : ℕ) → u < w → u + 1 + (w - (u + 1)) ≡ w
    reach u w h = omega arith

-- an entry's number is one of 1..B
pub entry_at_most :
    (g : Group) → InRange g → (v u : ℕ) → 1 ≤ u → u ≤ g.d → v ≤ min u g.k → entry_number g.k v u ≤ sequences g
unfolding entry_number
entry_at_most g r v u lu hu hv = omega (arith, before_apart g.k u (g.d + 1) (omega arith) lu (omega arith), before_all g r)

-- one number, one entry
pub entry_one :
    (k v u v' u' : ℕ) → 1 ≤ k → 1 ≤ v → v ≤ min u k → 1 ≤ v' → v' ≤ min u' k → entry_number k v u ≡ entry_number k v' u' → (u ≡ u') × (v ≡ v')
unfolding entry_number
entry_one k v u v' u' lk lv hv lv' hv' e =
    ⊎_elim
    (λ h.
    ⊎_elim (λ same. (same, omega (arith, ap (before k) same)))
    (λ below. absurd (omega (arith, before_apart k u u' lk (omega arith) below))) (eq-or-lt_of_le h))
    (λ above. absurd (omega (arith, before_apart k u' u lk (omega arith) above))) (le_or_lt u u')

-- numbers count from 1
pub entry_from_one : (k v u : ℕ) → 1 ≤ v → 1 ≤ entry_number k v u
unfolding entry_number
entry_from_one k v u lv = omega arith

-- an entry's letters lie in the file
pub entry_fits :
    (g : Group) → InRange g → (v u : ℕ) → 1 ≤ u → u ≤ g.d → 1 ≤ v → v ≤ min u g.k
    → (entry_number g.k v u - 1) * g.l + g.l ≤ file_letters g
unfolding file_letters
entry_fits g r v u lu hu lv hv =
    omega (
      arith,
      mul-le-mul_right g.l (last (entry_number g.k v u) (entry_at_most g r v u lu hu hv) first),
      add-mul (entry_number g.k v u - 1) 1 g.l,
      one-mul g.l,
    )
  where
    first : 1 ≤ entry_number g.k v u
    first = entry_from_one g.k v u lv

    last : (e : ℕ) → e ≤ sequences g → 1 ≤ e → e - 1 + 1 ≤ sequences g
    last e h l = omega arith
