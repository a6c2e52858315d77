-- The algebra of letters, and finite sums. Everything above is stated over it, so that a letter can be a byte or a bit.
use Rattle.std.specs.Prelude.{◌≡◌, Bool, false, ℕ, zero, suc, ◌+◌}
use Rattle.std.proofs.Common.{add_comm, add_assoc, add-zero}
use Rattle.std.specs.Int.Bits.{bit_xor, xor_zero_r, xor_self}
use Rattle.std.proofs.lemmas.Nat.{xor_comm}
use Rattle.letters.specs.Algebra.Xor.{xor_assoc}
use Rattle.letters.specs.Algebra.Bits.{unlike, unlike_comm, unlike_assoc, unlike_none, unlike_self}
pub mod Xor
pub mod Bits

-- What can be summed: an addition that is commutative and associative, with a zero. Letters can, and so can counts.
pub record Adding (A : Type 0) : Type 0 where
  pub none : A
  pub plus : A → A → A
  pub comm : (x y : A) → plus x y ≡ plus y x
  pub assoc : (x y z : A) → plus (plus x y) z ≡ plus x (plus y z)
  pub plus_none : (x : A) → plus x none ≡ x

-- Letters: they can be summed, and each letter is its own inverse.
pub record Letters (A : Type 0) : Type 0 where
  pub adding : Adding A
  pub self-inverse : (x : A) → adding.plus x x ≡ adding.none

-- Numbers under +, as counts use them.
abbrev pub counts : Adding ℕ
counts = record { none = 0; plus = ◌+◌; comm = add_comm; assoc = add_assoc; plus_none = add-zero }

-- Bytes under XOR.
abbrev pub xors : Adding ℕ
xors = record { none = 0; plus = bit_xor; comm = xor_comm; assoc = xor_assoc; plus_none = xor_zero_r }

abbrev pub bytes : Letters ℕ
bytes = record { adding = xors; self-inverse = xor_self }

-- Bits, the papers' letters: two that are unlike make 1.
abbrev pub bits : Letters Bool
bits =
    record {
      adding = record { none = false; plus = unlike; comm = unlike_comm; assoc = unlike_assoc; plus_none = unlike_none };
      self-inverse = unlike_self;
    }

-- f 1 + f 2 + .. + f n
unfoldable pub sum : {A : Type 0} → Adding A → ℕ → (ℕ → A) → A
sum 𝓐 zero f = 𝓐.none
sum 𝓐 (suc n) f = 𝓐.plus (sum 𝓐 n f) (f (suc n))
