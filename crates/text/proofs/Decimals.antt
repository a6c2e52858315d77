-- The fewest digits that hold a number are as many as `places` counts: each step takes one digit and a tenth.
use mathlib.Core.Path.{◌≡◌, refl, ap, ◌∙◌}
use mathlib.Core.List.{List}
use mathlib.Core.Bool.{Bool, true, false, cond}
use Prim.Native.Nat.{ℕ, zero, suc, ◌-◌, ◌/◌, ◌^◌, ◌≤◌, ◌<◌}
use native.Mathlib.Nat.{pow-succ', one-le-pow, pow-le-pow_right}
use native.Mathlib.Omega.{arith}
use lib.Dec.{ltb, leb}
use borrow.Author.Tests.{ltb-true, ltb-false, leb-true, leb-false}
use Rattle.io.specs.Digits.{last_digits, IsDigitCount}
use Rattle.text.specs.Text.{places, decimal}

-- the least that a number of so many digits is
least : (n j : ℕ) → (1 < suc (suc j) → 10 ^ (suc (suc j) - 1) ≤ n) → 10 ^ suc j ≤ n
least n j f = let e : suc (suc j) - 1 ≡ suc j = omega arith in rw e at (f (omega arith))

-- below ten one digit is enough
one_digit : (n k : ℕ) → n < 10 → IsDigitCount 10 1 n k → k ≡ 1
one_digit n zero h f = absurd (omega (arith, f.0))
one_digit n (suc zero) h f = refl
one_digit n (suc (suc j)) h f = absurd (omega (arith, least n j f.2, pow-succ' 10 j, one-le-pow j 10 (omega arith)))

-- a tenth has one digit less
tenth : (n j : ℕ) → IsDigitCount 10 1 n (suc (suc j)) → IsDigitCount 10 1 (n / 10) (suc j)
tenth n j f =
    let e : suc j - 1 ≡ j = omega arith in
    (omega arith, omega (arith, f.1, pow-succ' 10 (suc j)), λ h. rw e (omega (arith, least n j f.2, pow-succ' 10 j)))

-- the step from a tenth
stepped : (more n k : ℕ) (b : Bool) → ltb n 10 ≡ b → IsDigitCount 10 1 n k → k ≤ suc (suc more)
    → ((j : ℕ) → IsDigitCount 10 1 (n / 10) j → j ≤ suc more → j ≡ places more (n / 10)) → k ≡ cond b 1 (suc (places more (n / 10)))
stepped more n k true e f h below = one_digit n k (ltb-true n 10 e) f
stepped more n zero false e f h below = absurd (omega (arith, f.0))
stepped more n (suc zero) false e f h below = absurd (omega (arith, f.1, ltb-false n 10 e))
stepped more n (suc (suc j)) false e f h below = ap suc (below (suc j) (tenth n j f) (omega arith))

pub fewest_places : (more n k : ℕ) → IsDigitCount 10 1 n k → k ≤ suc more → k ≡ places more n
unfolding places
fewest_places zero n k f h = omega (arith, f.0)
fewest_places (suc more) n k f h = stepped more n k (ltb n 10) refl f h (λ j g i. fewest_places more (n / 10) j g i)

-- a number of 64 bits has at most twenty digits
pub few : (n k : ℕ) → n < 2 ^ 64 → IsDigitCount 10 1 n k → k ≤ 20
few n k h f = by (leb k 20) refl
  where
    by : (b : Bool) → leb k 20 ≡ b → k ≤ 20
    by true e = leb-true k 20 e
    by false e =
        let more : 20 < k = leb-false k 20 e in
        let long : 10 ^ 20 ≤ 10 ^ (k - 1) = pow-le-pow_right {n = 10} (omega arith) {i = 20} {j = k - 1} (omega arith) in
        absurd (omega (arith, long, f.2 (omega arith)))

-- and its fewest digits are it in decimal
pub spelled : (n k : ℕ) (text : List ℕ) → n < 2 ^ 64 → IsDigitCount 10 1 n k → text ≡ last_digits 10 k n → text ≡ decimal n
unfolding decimal
spelled n k text h f e = e ∙ ap (λ j. last_digits 10 j n) (fewest_places 19 n k f (few n k h f))
