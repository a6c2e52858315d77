-- What a map of letters that takes sums to sums does to sums and runs; a bit lane is such a map, and so is a number's last byte.
use mathlib.Core.Path.{◌≡◌, refl, sym, ap, ◌∙◌}
use mathlib.Core.Bool.{Bool, true, false, cond}
use mathlib.Core.List.{List, map}
use Prim.Native.Nat.{ℕ, zero, suc, ◌+◌, ◌-◌, ◌/◌, ◌%◌, ◌^◌, ◌<◌}
use native.Mathlib.Nat.{mod-eq_of_lt, zero-div}
use native.Mathlib.Omega.{arith}
use lib.Bits.{bit_xor, xor_mod, xor_shr}
use lib.Dec.{eqb}
use lib.ListN.{get_or, length-map, get_or-map}
use lib.Seq.{ext_get_or}
use Rattle.letters.specs.Algebra.{Adding, xors, bits, sum}
use Rattle.letters.specs.Algebra.Bits.{unlike}
use Rattle.letters.specs.Algebra.Xor.{bit_cases}
use Rattle.letters.specs.Places.{inside, letter}
use Rattle.letters.specs.Lanes.{Bytes, lane, Carries}

module _ {A B : Type 0} (𝓐 : Adding A) (𝓑 : Adding B) (h : A → B) (c : Carries 𝓐 𝓑 h) where
  pub sum_carried : (n : ℕ) (f : ℕ → A) → h (sum 𝓐 n f) ≡ sum 𝓑 n (λ i. h (f i))
  unfolding sum
  sum_carried zero f = c.none
  sum_carried (suc n) f = c.plus (sum 𝓐 n f) (f (suc n)) ∙ ap (λ x. 𝓑.plus x (h (f (suc n)))) (sum_carried n f)

  pub get_d_carried : (xs : List A) (i : ℕ) → get_or (map h xs) i 𝓑.none ≡ h (get_or xs i 𝓐.none)
  get_d_carried xs i = ap (get_or (map h xs) i) (sym c.none) ∙ get_or-map h xs i 𝓐.none

  pub letter_carried :
      (xs : List A) (start n p : ℕ) → h (letter 𝓐.none xs start n p) ≡ letter 𝓑.none (map h xs) start n p
  unfolding letter
  letter_carried xs start n p = either_way (inside n p)
    where
      either_way :
          (b : Bool)
          → h (cond b (get_or xs (start + (p - 1)) 𝓐.none) 𝓐.none)
          ≡ cond b (get_or (map h xs) (start + (p - 1)) 𝓑.none) 𝓑.none
      either_way true = sym (get_d_carried xs (start + (p - 1)))
      either_way false = c.none

-- a bit lane
digit_lane : (x y : ℕ) → x < 2 → y < 2 → eqb (bit_xor x y) 1 ≡ unlike (eqb x 1) (eqb y 1)
digit_lane x y hx hy =
    bit_cases (λ x. eqb (bit_xor x y) 1 ≡ unlike (eqb x 1) (eqb y 1))
    (bit_cases (λ y. eqb (bit_xor 0 y) 1 ≡ unlike (eqb 0 1) (eqb y 1)) refl refl y hy)
    (bit_cases (λ y. eqb (bit_xor 1 y) 1 ≡ unlike (eqb 1 1) (eqb y 1)) refl refl y hy) x hx

pub lane_carries : (b : ℕ) → Carries xors bits.adding (lane b)
unfolding lane
lane_carries b =
    record {
      none = ap (λ x. eqb (x % 2) 1) (zero-div (2 ^ b));
      plus =
          λ x y.
          ap (λ z. eqb (z % 2) 1) (xor_shr x y b)
          ∙ ap (λ z. eqb z 1) (xor_mod (x / 2 ^ b) (y / 2 ^ b) 1)
          ∙ digit_lane (x / 2 ^ b % 2) (y / 2 ^ b % 2) (omega arith) (omega arith);
    }

-- a number's last byte
pub last_byte : ℕ → ℕ
last_byte x = x % 256

pub last_carries : Carries xors xors last_byte
unfolding last_byte
last_carries = record { none = refl; plus = λ x y. xor_mod x y 8 }

-- bytes are the lists that it leaves as they are
pub bytes_kept : (xs : List ℕ) → Bytes xs → map last_byte xs ≡ xs
unfolding last_byte
bytes_kept xs b =
    ext_get_or 0 (map last_byte xs) xs (length-map xs last_byte)
    (λ i l. get_or-map last_byte xs i 0 ∙ mod-eq_of_lt (b.below i (omega (arith, length-map xs last_byte))))

pub kept_bytes : (xs : List ℕ) → map last_byte xs ≡ xs → Bytes xs
unfolding last_byte
kept_bytes xs e =
    record { below = λ i l. omega (arith, sym (get_or-map last_byte xs i 0) ∙ ap (λ ys. get_or ys i 0) e) }
