-- Laws of finite sums, each by induction on how many terms there are.
use mathlib.Core.Path.{◌≡◌, refl, sym, ap, ap₂, ◌∙◌}
use mathlib.Core.Logic.{⊎_elim}
use Prim.Native.Nat.{ℕ, zero, suc, ◌+◌, ◌*◌, ◌≤◌}
use native.Mathlib.Nat.{eq-or-lt_of_le, add-zero, add-suc, suc-mul}
use native.Mathlib.Numerals.{add-one}
use native.Mathlib.Omega.{arith}
use Rattle.letters.specs.Algebra.{Adding, Letters, sum, counts}

module _ {A : Type 0} (𝓐 : Adding A) where
  -- zero on the left
  pub none_plus : (x : A) → 𝓐.plus 𝓐.none x ≡ x
  none_plus x = 𝓐.comm 𝓐.none x ∙ 𝓐.plus_none x

  -- four terms, the middle two exchanged
  pub plus_swap : (a b c d : A) → 𝓐.plus (𝓐.plus a b) (𝓐.plus c d) ≡ 𝓐.plus (𝓐.plus a c) (𝓐.plus b d)
  plus_swap a b c d =
      𝓐.assoc a b (𝓐.plus c d)
      ∙ ap (𝓐.plus a) (sym (𝓐.assoc b c d) ∙ ap (λ x. 𝓐.plus x d) (𝓐.comm b c) ∙ 𝓐.assoc c b d)
      ∙ sym (𝓐.assoc a c (𝓐.plus b d))

  -- three terms, the last two exchanged
  pub plus_right : (a b c : A) → 𝓐.plus (𝓐.plus a b) c ≡ 𝓐.plus (𝓐.plus a c) b
  plus_right a b c = 𝓐.assoc a b c ∙ ap (𝓐.plus a) (𝓐.comm b c) ∙ sym (𝓐.assoc a c b)

  pub sum_none_terms : (f : ℕ → A) → sum 𝓐 0 f ≡ 𝓐.none
  unfolding sum
  sum_none_terms f = refl

  -- one term more
  pub sum_more : (n : ℕ) (f : ℕ → A) → sum 𝓐 (n + 1) f ≡ 𝓐.plus (sum 𝓐 n f) (f (n + 1))
  unfolding sum
  sum_more n f = rw add-one

  -- equal terms
  pub sum_same : (n : ℕ) (f g : ℕ → A) → ((i : ℕ) → 1 ≤ i → i ≤ n → f i ≡ g i) → sum 𝓐 n f ≡ sum 𝓐 n g
  unfolding sum
  sum_same zero f g h = refl
  sum_same (suc n) f g h =
      ap₂ 𝓐.plus (sum_same n f g (λ i lo hi. h i lo (omega arith))) (h (suc n) (omega arith) (omega arith))

  -- a sum of sums is the sum of each
  pub sum_plus : (n : ℕ) (f g : ℕ → A) → sum 𝓐 n (λ i. 𝓐.plus (f i) (g i)) ≡ 𝓐.plus (sum 𝓐 n f) (sum 𝓐 n g)
  unfolding sum
  sum_plus zero f g = sym (𝓐.plus_none 𝓐.none)
  sum_plus (suc n) f g =
      ap (λ x. 𝓐.plus x (𝓐.plus (f (suc n)) (g (suc n)))) (sum_plus n f g)
      ∙ plus_swap (sum 𝓐 n f) (sum 𝓐 n g) (f (suc n)) (g (suc n))

  -- all terms zero
  pub sum_none : (n : ℕ) (f : ℕ → A) → ((i : ℕ) → 1 ≤ i → i ≤ n → f i ≡ 𝓐.none) → sum 𝓐 n f ≡ 𝓐.none
  unfolding sum
  sum_none zero f h = refl
  sum_none (suc n) f h =
      ap₂ 𝓐.plus (sum_none n f (λ i lo hi. h i lo (omega arith))) (h (suc n) (omega arith) (omega arith))
      ∙ 𝓐.plus_none 𝓐.none

  -- the order of two sums is free
  pub sum_swap :
      (n m : ℕ) (f : ℕ → ℕ → A) → sum 𝓐 n (λ i. sum 𝓐 m (λ j. f i j)) ≡ sum 𝓐 m (λ j. sum 𝓐 n (λ i. f i j))
  unfolding sum
  sum_swap zero m f = sym (sum_none m (λ j. 𝓐.none) (λ i lo hi. refl))
  sum_swap (suc n) m f =
      ap (λ x. 𝓐.plus x (sum 𝓐 m (λ j. f (suc n) j))) (sum_swap n m f)
      ∙ sym (sum_plus m (λ j. sum 𝓐 n (λ i. f i j)) (λ j. f (suc n) j))

  -- terms that differ at one place alone, and there by c: the sums differ by c
  pub sum_change :
      (n u : ℕ) (f g : ℕ → A) (c : A) → 1 ≤ u → u ≤ n → g u ≡ 𝓐.plus (f u) c
      → ((i : ℕ) → 1 ≤ i → i ≤ n → (i ≡ u → ⊥) → g i ≡ f i) → sum 𝓐 n g ≡ 𝓐.plus (sum 𝓐 n f) c
  unfolding sum
  sum_change zero u f g c lo hi e h = absurd (omega arith)
  sum_change (suc n) u f g c lo hi e h =
      ⊎_elim
      (λ same.
      ap₂ 𝓐.plus (sum_same n g f (λ i l r. h i l (omega arith) (λ q. omega arith)))
      (ap g (sym same) ∙ e ∙ ap (λ x. 𝓐.plus (f x) c) same)
      ∙ sym (𝓐.assoc (sum 𝓐 n f) (f (suc n)) c))
      (λ below.
      ap₂ 𝓐.plus (sum_change n u f g c lo (omega arith) e (λ i l r q. h i l (omega arith) q))
      (h (suc n) (omega arith) (omega arith) (λ q. omega arith))
      ∙ plus_right (sum 𝓐 n f) c (f (suc n)))
      (eq-or-lt_of_le hi)

  -- a sum in two parts
  pub sum_split :
      (n m : ℕ) (f : ℕ → A) → sum 𝓐 (n + m) f ≡ 𝓐.plus (sum 𝓐 n f) (sum 𝓐 m (λ i. f (n + i)))
  unfolding sum
  sum_split n zero f = rw add-zero (sym (𝓐.plus_none (sum 𝓐 n f)))
  sum_split n (suc m) f =
      ap (λ k. sum 𝓐 k f) (add-suc n m)
      ∙ ap₂ 𝓐.plus (sum_split n m f) (ap f (sym (add-suc n m)))
      ∙ 𝓐.assoc (sum 𝓐 n f) (sum 𝓐 m (λ i. f (n + i))) (f (n + suc m))

  -- a sum from its first term on
  pub sum_first : (n : ℕ) (f : ℕ → A) → sum 𝓐 (1 + n) f ≡ 𝓐.plus (f 1) (sum 𝓐 n (λ i. f (1 + i)))
  unfolding sum
  sum_first n f = sum_split 1 n f ∙ ap (λ x. 𝓐.plus x (sum 𝓐 n (λ i. f (1 + i)))) (none_plus (f 1))

module _ {A : Type 0} (𝓛 : Letters A) where
  -- a letter added twice is gone
  pub plus_twice : (x y : A) → 𝓛.adding.plus (𝓛.adding.plus x y) y ≡ x
  plus_twice x y =
      𝓛.adding.assoc x y y ∙ ap (𝓛.adding.plus x) (𝓛.self-inverse y) ∙ 𝓛.adding.plus_none x

  -- what is added on the left can be taken off
  pub plus_cancel : (x y z : A) → 𝓛.adding.plus x y ≡ 𝓛.adding.plus x z → y ≡ z
  plus_cancel x y z e =
      sym (plus_twice y x)
      ∙ ap (λ w. 𝓛.adding.plus w x) (𝓛.adding.comm y x ∙ e ∙ 𝓛.adding.comm x z)
      ∙ plus_twice z x

  -- two sums that are the same, and whose terms agree at all places but one, agree there too
  pub sum_but_one :
      (n u : ℕ) (f g : ℕ → A) → 1 ≤ u → u ≤ n → sum 𝓛.adding n f ≡ sum 𝓛.adding n g
      → ((i : ℕ) → 1 ≤ i → i ≤ n → (i ≡ u → ⊥) → f i ≡ g i) → f u ≡ g u
  sum_but_one n u f g lo hi e h =
      sym (plus_twice (f u) (g u))
      ∙ ap (λ w. 𝓛.adding.plus w (g u)) gone
      ∙ none_plus 𝓛.adding (g u)
    where
      -- f is g but at u, where it is g u + (f u + g u): so the sums differ by f u + g u, which is zero then
      apart : sum 𝓛.adding n f ≡ 𝓛.adding.plus (sum 𝓛.adding n g) (𝓛.adding.plus (f u) (g u))
      apart =
          sum_change 𝓛.adding n u g f (𝓛.adding.plus (f u) (g u)) lo hi
          (sym (𝓛.adding.comm (g u) (𝓛.adding.plus (f u) (g u)) ∙ plus_twice (f u) (g u))) h

      gone : 𝓛.adding.plus (f u) (g u) ≡ 𝓛.adding.none
      gone =
          sym (plus_cancel (sum 𝓛.adding n g) 𝓛.adding.none (𝓛.adding.plus (f u) (g u))
          (𝓛.adding.plus_none (sum 𝓛.adding n g) ∙ sym e ∙ apart))

-- a sum of counts is at most b for each term, if each term is
pub sum_at_most : (n b : ℕ) (f : ℕ → ℕ) → ((i : ℕ) → 1 ≤ i → i ≤ n → f i ≤ b) → sum counts n f ≤ n * b
unfolding sum
sum_at_most zero b f h = omega arith
sum_at_most (suc n) b f h =
    omega (arith, suc-mul n b, sum_at_most n b f (λ i lo hi. h i lo (omega arith)), h (suc n) (omega arith) (omega arith))

-- a sum of equal counts is their product
pub sum_constant : (n c : ℕ) → sum counts n (λ i. c) ≡ n * c
unfolding sum
sum_constant zero c = omega arith
sum_constant (suc n) c = omega (arith, suc-mul n c, sum_constant n c)

-- a sum of counts is at most another, if each term is
pub sum_below : (n : ℕ) (f g : ℕ → ℕ) → ((i : ℕ) → 1 ≤ i → i ≤ n → f i ≤ g i) → sum counts n f ≤ sum counts n g
unfolding sum
sum_below zero f g h = omega arith
sum_below (suc n) f g h =
    omega (arith, sum_below n f g (λ i lo hi. h i lo (omega arith)), h (suc n) (omega arith) (omega arith))
