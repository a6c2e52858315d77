-- Numbers as bytes, and back: a number's bytes, taken together, are the number, and bytes are those of the number that they make.
use mathlib.Core.Path.{◌≡◌, refl, ap, ap₂, ◌∙◌}
use mathlib.Core.List.{List}
use mathlib.Core.Logic.{◌↔◌}
use Prim.Native.Nat.{ℕ, zero, suc, ◌+◌, ◌-◌, ◌*◌, ◌/◌, ◌^◌, ◌≤◌, ◌<◌}
use native.Mathlib.Nat.{add-zero, mul_assoc, pow-succ'}
use native.Mathlib.Omega.{arith}
use lib.ListN.{length, get_or}
use Rattle.records.specs.Records.{number, number_in}

pub length_number : (s x : ℕ) → length (number s x) ≡ s
length_number zero x = refl
length_number (suc s) x = ap suc (length_number s (x / 256))

-- from an index on, and from the next one on
pub first_index : (xs : List ℕ) (at : ℕ) → get_or xs (at + 0) 0 ≡ get_or xs at 0
first_index xs at = ap (λ i. get_or xs i 0) (add-zero at)

pub next_index : (xs : List ℕ) (at q : ℕ) → get_or xs (suc at + q) 0 ≡ get_or xs (at + suc q) 0
next_index xs at q = ap (λ i. get_or xs i 0) (omega arith)

-- what bytes make is told by these alone
pub number_same :
    (s at at' : ℕ) (xs zs : List ℕ) → ((q : ℕ) → q < s → get_or xs (at + q) 0 ≡ get_or zs (at' + q) 0) → number_in s at xs ≡ number_in s at' zs
number_same zero at at' xs zs e = refl
number_same (suc s) at at' xs zs e =
    ap₂ (λ a b. a + 256 * b) (omega (arith, first_index xs at, first_index zs at', e 0 (omega arith)))
    (number_same s (suc at) (suc at') xs zs (λ q l. omega (arith, next_index xs at q, next_index zs at' q, e (suc q) (omega arith))))

-- a number that has room in so many bytes, from these
pub number_back :
    (s at x : ℕ) (xs : List ℕ) → x < 256 ^ s → ((q : ℕ) → q < s → get_or xs (at + q) 0 ≡ get_or (number s x) q 0) → number_in s at xs ≡ x
number_back zero at x xs h e = omega arith
number_back (suc s) at x xs h e =
    omega (
      arith,
      number_back s (suc at) (x / 256) xs (omega (arith, pow-succ' 256 s)) (λ q l. next_index xs at q ∙ e (suc q) (omega arith)),
      first_index xs at,
      e 0 (omega arith),
    )

-- a byte of a number is one
pub number_byte : (s x q : ℕ) → get_or (number s x) q 0 < 256
number_byte zero x q = omega arith
number_byte (suc s) x zero = omega arith
number_byte (suc s) x (suc q) = number_byte s (x / 256) q

-- and a number of which every byte is zero is zero
pub number_none : (s x : ℕ) → x < 256 ^ s → ((q : ℕ) → q < s → get_or (number s x) q 0 ≡ 0) → x ≡ 0
number_none zero x h e = omega arith
number_none (suc s) x h e =
    omega (arith, e 0 (omega arith), number_none s (x / 256) (omega (arith, pow-succ' 256 s)) (λ q l. e (suc q) (omega arith)))

pub none_number : (s q : ℕ) → get_or (number s 0) q 0 ≡ 0
none_number zero q = refl
none_number (suc s) zero = refl
none_number (suc s) (suc q) = none_number s q

-- where these are bytes
pub record BytesFrom (xs : List ℕ) (at s : ℕ) : Type 0 where
  pub below : (q : ℕ) → q < s → get_or xs (at + q) 0 < 256

bytes_on : (xs : List ℕ) (at s : ℕ) → BytesFrom xs at (suc s) → BytesFrom xs (suc at) s
bytes_on xs at s b = record { below = λ q l. omega (arith, next_index xs at q, b.below (suc q) (omega arith)) }

-- the number has room in them, and its bytes are these
pub number_below : (s at : ℕ) (xs : List ℕ) → BytesFrom xs at s → number_in s at xs < 256 ^ s
number_below zero at xs b = omega arith
number_below (suc s) at xs b =
    omega (arith, number_below s (suc at) xs (bytes_on xs at s b), pow-succ' 256 s, first_index xs at, b.below 0 (omega arith))

-- a last byte more
pub number_last : (s at : ℕ) (xs : List ℕ) → number_in (suc s) at xs ≡ number_in s at xs + 256 ^ s * get_or xs (at + s) 0
number_last zero at xs = omega (arith, first_index xs at)
number_last (suc s) at xs =
    let last = get_or xs (at + suc s) 0 in
    let carried : 256 ^ suc s * last ≡ 256 * (256 ^ s * last) = ap (λ p. p * last) (pow-succ' 256 s) ∙ mul_assoc 256 (256 ^ s) last in
    let rest = number_last s (suc at) xs ∙ ap (λ b. number_in s (suc at) xs + 256 ^ s * b) (next_index xs at s) in
    omega (arith, carried, rest)

pub number_own : (s at : ℕ) (xs : List ℕ) → BytesFrom xs at s → (q : ℕ) → q < s → get_or xs (at + q) 0 ≡ get_or (number s (number_in s at xs)) q 0
number_own zero at xs b q h = absurd (omega arith)
number_own (suc s) at xs b zero h = omega (arith, first_index xs at, b.below 0 (omega arith))
number_own (suc s) at xs b (suc q) h =
    let low : get_or xs at 0 < 256 = omega (arith, first_index xs at, b.below 0 (omega arith)) in
    let rest : (get_or xs at 0 + 256 * number_in s (suc at) xs) / 256 ≡ number_in s (suc at) xs = omega arith in
    rw rest (omega (arith, next_index xs at q, number_own s (suc at) xs (bytes_on xs at s b) q (omega arith)))

-- one byte more at the front
pub number_more : (s at : ℕ) (xs : List ℕ) → 1 ≤ s → number_in s at xs ≡ get_or xs at 0 + 256 * number_in (s - 1) (at + 1) xs
number_more zero at xs h = absurd (omega arith)
number_more (suc s) at xs h =
    let a : suc s - 1 ≡ s = omega arith in
    let b : suc at ≡ at + 1 = omega arith in
    rw (a, b)

-- where the rest of a number has room
pub room_more : (s x : ℕ) → 1 ≤ s → (x < 256 ^ s) ↔ (x / 256 < 256 ^ (s - 1))
room_more zero x h = absurd (omega arith)
room_more (suc s) x h =
    let a : suc s - 1 ≡ s = omega arith in
    rw a (λ l. omega (arith, pow-succ' 256 s), λ l. omega (arith, pow-succ' 256 s))
