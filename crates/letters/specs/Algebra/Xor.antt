-- XOR is associative: both sides have the same last digit, by cases, and the same half, by induction on the digits.
use Rattle.std.specs.Prelude.{◌≡◌, refl, ℕ, zero, suc, ◌+◌, ◌*◌, ◌/◌, ◌%◌, ◌<◌}
use Rattle.std.proofs.Common.{ap₂, ◌∙◌, sym, arith, div-add-mod'}
use Rattle.std.proofs.Math.Arith.{bin_ind}
use Rattle.std.specs.Int.Bits.{bit_xor}
use Rattle.std.proofs.lemmas.Nat.{xor_shr, xor_mod}

-- what holds of 0 and 1 holds of a number below 2
pub bit_cases : (P : ℕ → Type 0) → P 0 → P 1 → (a : ℕ) → a < 2 → P a
bit_cases P p0 p1 zero h = p0
bit_cases P p0 p1 (suc zero) h = p1
bit_cases P p0 p1 (suc (suc a)) h = absurd (omega arith)

digit_assoc : (a b c : ℕ) → a < 2 → b < 2 → c < 2 → bit_xor (bit_xor a b) c ≡ bit_xor a (bit_xor b c)
digit_assoc a b c ha hb hc =
    bit_cases (λ a. bit_xor (bit_xor a b) c ≡ bit_xor a (bit_xor b c)) refl
    (bit_cases (λ b. bit_xor (bit_xor 1 b) c ≡ bit_xor 1 (bit_xor b c)) refl
    (bit_cases (λ c. bit_xor (bit_xor 1 1) c ≡ bit_xor 1 (bit_xor 1 c)) refl refl c hc) b hb) a ha

by_digits : (x y : ℕ) → x / 2 ≡ y / 2 → x % 2 ≡ y % 2 → x ≡ y
by_digits x y p q = sym (div-add-mod' x 2) ∙ ap₂ (λ h l. h * 2 + l) p q ∙ div-add-mod' y 2

pub xor_assoc : (x y z : ℕ) → bit_xor (bit_xor x y) z ≡ bit_xor x (bit_xor y z)
xor_assoc =
    bin_ind (λ (x : ℕ). (y z : ℕ) → bit_xor (bit_xor x y) z ≡ bit_xor x (bit_xor y z)) (λ y z. refl)
    (λ x ih y z.
    by_digits (bit_xor (bit_xor x y) z) (bit_xor x (bit_xor y z))
    (simp (xor_shr (bit_xor x y) z 1, xor_shr x y 1, xor_shr x (bit_xor y z) 1, xor_shr y z 1) (ih (y / 2) (z / 2)))
    (simp (xor_mod (bit_xor x y) z 1, xor_mod x y 1, xor_mod x (bit_xor y z) 1, xor_mod y z 1)
    (digit_assoc (x % 2) (y % 2) (z % 2) (omega arith) (omega arith) (omega arith))))
