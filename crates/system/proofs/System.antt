-- Laws of the system's definitions: what a sequence in a buffer has at a place, also after a store, and that parts, delays and costs read nothing but the shifts of their ranks.
use mathlib.Core.Path.{◌≡◌, refl, ap, ap₂, ◌∙◌}
use mathlib.Core.List.{List}
use Prim.Native.Nat.{ℕ, ◌+◌, ◌-◌, ◌*◌, ◌≤◌, ◌<◌}
use native.Mathlib.Nat.{mul-le-mul_right, add-mul, one-mul}
use native.Mathlib.Omega.{arith}
use lib.ListN.{get_or}
use Rattle.letters.specs.Algebra.{Adding}
use Rattle.letters.proofs.Places.{letter_inside, letter_zero, letter_above}
use Rattle.letters.proofs.Sums.{sum_same}
use Rattle.system.specs.System.{part, sequence, Sequences}

-- the index of letter p of sequence a, in a buffer of sequences of n letters
abbrev pub index_of : ℕ → ℕ → ℕ → ℕ
index_of n a p = (a - 1) * n + (p - 1)

-- the letters of one sequence end where those of the next start
rows_apart : (n a b : ℕ) → 1 ≤ a → a < b → (a - 1) * n + n ≤ (b - 1) * n
rows_apart n a b la h =
    omega (arith, mul-le-mul_right n (step a b la h), add-mul (a - 1) 1 n, one-mul n)
  where
    step : (a b : ℕ) → 1 ≤ a → a < b → (a - 1) + 1 ≤ b - 1
    step a b la h = omega arith

rank_after : (a : ℕ) → (a + 1) - 1 ≡ a
rank_after a = omega arith

-- a letter inside 1..n of one of s sequences lies in the buffer
pub index_below : (s n a p : ℕ) → 1 ≤ a → a ≤ s → 1 ≤ p → p ≤ n → index_of n a p < s * n
index_below s n a p la ha lp hp = omega (arith, rows_apart n a (s + 1) la (omega arith), ap (λ m. m * n) (rank_after s))

-- and the sequence after the first a of them with it
pub sequence_fits : (s n a : ℕ) → a < s → a * n + n ≤ s * n
sequence_fits s n a h =
    omega (arith, rows_apart n (a + 1) (s + 1) (omega arith) (omega arith), ap (λ m. m * n) (rank_after a), ap (λ m. m * n) (rank_after s))

module _ {A : Type 0} (none : A) (xs : List A) (n : ℕ) where
  pub sequence_inside : (a p : ℕ) → 1 ≤ p → p ≤ n → sequence none xs n a p ≡ get_or xs (index_of n a p) none
  unfolding sequence
  sequence_inside a p lo hi = letter_inside none xs ((a - 1) * n) n p lo hi

  pub sequence_after : (a p : ℕ) → 1 ≤ p → p ≤ n → sequence none xs n (a + 1) p ≡ get_or xs (a * n + (p - 1)) none
  sequence_after a p lo hi =
      sequence_inside (a + 1) p lo hi ∙ ap (λ m. get_or xs (m * n + (p - 1)) none) (rank_after a)

  -- what lies in a buffer are sequences
  pub sequences : Sequences none n (sequence none xs n)
  unfolding sequence
  sequences =
      record {
        nothing_below = λ a. letter_zero none xs ((a - 1) * n) n 0 refl;
        nothing_above = λ a p h. letter_above none xs ((a - 1) * n) n p h;
      }

-- a part reads its own rank's shifts, and each sequence at one place
pub part_same :
    {A : Type 0} (𝓐 : Adding A) (s : ℕ) (t t' : ℕ → ℕ → ℕ) (x y : ℕ → ℕ → A) (b p : ℕ)
    → ((a : ℕ) → 1 ≤ a → a ≤ s → x a ((p + t b b) - t b a) ≡ y a ((p + t' b b) - t' b a)) → part 𝓐 s t x b p ≡ part 𝓐 s t' y b p
unfolding part
part_same 𝓐 s t t' x y b p e = sum_same 𝓐 s (λ a. x a ((p + t b b) - t b a)) (λ a. y a ((p + t' b b) - t' b a)) e

-- so shifts that agree at the ranks 1..s give the same parts
pub part_shifts :
    {A : Type 0} (𝓐 : Adding A) (s : ℕ) (t t' : ℕ → ℕ → ℕ) (x : ℕ → ℕ → A) (b p : ℕ) → 1 ≤ b → b ≤ s
    → ((b a : ℕ) → 1 ≤ b → b ≤ s → 1 ≤ a → a ≤ s → t b a ≡ t' b a) → part 𝓐 s t x b p ≡ part 𝓐 s t' x b p
part_shifts 𝓐 s t t' x b p lb hb e =
    part_same 𝓐 s t t' x x b p (λ a la ha. ap₂ (λ m k. x a ((p + m) - k)) (e b b lb hb lb hb) (e b a lb hb la ha))
