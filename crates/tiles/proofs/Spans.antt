-- Laws of sums over the ranks after i and up to hi, each from the law of sums from 1 on.
use mathlib.Core.Path.{◌≡◌, sym, ap, ap₂, ◌∙◌}
use Prim.Native.Nat.{ℕ, ◌+◌, ◌-◌, ◌≤◌, ◌<◌}
use native.Mathlib.Omega.{arith}
use Rattle.letters.specs.Algebra.{Adding, sum}
use Rattle.letters.proofs.Sums.{sum_same, sum_plus, sum_none, sum_more, sum_none_terms, sum_split, none_plus}
use Rattle.tiles.specs.Stages.{span}

module _ {A : Type 0} (𝓐 : Adding A) where
  -- equal terms
  pub span_same : (i hi : ℕ) (f g : ℕ → A) → ((a : ℕ) → i < a → a ≤ hi → f a ≡ g a) → span 𝓐 i hi f ≡ span 𝓐 i hi g
  unfolding span
  span_same i hi f g h =
      sum_same 𝓐 (hi - i) (λ u. f (i + u)) (λ u. g (i + u)) (λ u lo up. h (i + u) (omega arith) (omega arith))

  -- a span of sums
  pub span_plus :
      (i hi : ℕ) (f g : ℕ → A) → span 𝓐 i hi (λ a. 𝓐.plus (f a) (g a)) ≡ 𝓐.plus (span 𝓐 i hi f) (span 𝓐 i hi g)
  unfolding span
  span_plus i hi f g = sum_plus 𝓐 (hi - i) (λ u. f (i + u)) (λ u. g (i + u))

  -- all terms zero
  pub span_none : (i hi : ℕ) (f : ℕ → A) → ((a : ℕ) → i < a → a ≤ hi → f a ≡ 𝓐.none) → span 𝓐 i hi f ≡ 𝓐.none
  unfolding span
  span_none i hi f h = sum_none 𝓐 (hi - i) (λ u. f (i + u)) (λ u lo up. h (i + u) (omega arith) (omega arith))

  -- the last term by itself
  pub span_last : (i h hi : ℕ) (f : ℕ → A) → i ≤ h → hi ≡ h + 1 → span 𝓐 i hi f ≡ 𝓐.plus (span 𝓐 i h f) (f hi)
  unfolding span
  span_last i h hi f l e =
      ap (λ k. sum 𝓐 k (λ u. f (i + u))) (terms i h hi l e)
      ∙ sum_more 𝓐 (h - i) (λ u. f (i + u))
      ∙ ap (λ a. 𝓐.plus (sum 𝓐 (h - i) (λ u. f (i + u))) (f a)) (last i h hi l e)
    where
      terms : (i h hi : ℕ) → i ≤ h → hi ≡ h + 1 → hi - i ≡ (h - i) + 1
      terms i h hi l e = omega arith

      last : (i h hi : ℕ) → i ≤ h → hi ≡ h + 1 → i + ((h - i) + 1) ≡ hi
      last i h hi l e = omega arith

  -- a sum from 1 on, in two
  pub span_rest : (i hi : ℕ) (f : ℕ → A) → i ≤ hi → sum 𝓐 hi f ≡ 𝓐.plus (sum 𝓐 i f) (span 𝓐 i hi f)
  unfolding span
  span_rest i hi f l = ap (λ k. sum 𝓐 k f) (whole i hi l) ∙ sum_split 𝓐 i (hi - i) f
    where
      whole : (i hi : ℕ) → i ≤ hi → hi ≡ i + (hi - i)
      whole i hi l = omega arith

  -- the terms moved by one
  pub span_moved : (i j h hi : ℕ) (f : ℕ → A) → j ≡ i + 1 → hi ≡ h + 1 → span 𝓐 i h (λ a. f (a + 1)) ≡ span 𝓐 j hi f
  unfolding span
  span_moved i j h hi f e e' =
      ap (λ k. sum 𝓐 k (λ u. f ((i + u) + 1))) (terms i j h hi e e')
      ∙ sum_same 𝓐 (hi - j) (λ u. f ((i + u) + 1)) (λ u. f (j + u)) (λ u lo up. ap f (moved i j u e))
    where
      terms : (i j h hi : ℕ) → j ≡ i + 1 → hi ≡ h + 1 → h - i ≡ hi - j
      terms i j h hi e e' = omega arith

      moved : (i j u : ℕ) → j ≡ i + 1 → (i + u) + 1 ≡ j + u
      moved i j u e = omega arith

  -- the first term by itself
  pub span_first : (i j hi : ℕ) (f : ℕ → A) → j ≡ i + 1 → j ≤ hi → span 𝓐 i hi f ≡ 𝓐.plus (f j) (span 𝓐 j hi f)
  unfolding span
  span_first i j hi f e l =
      ap (λ k. sum 𝓐 k (λ u. f (i + u))) (terms i j hi e l)
      ∙ sum_split 𝓐 1 (hi - j) (λ u. f (i + u))
      ∙ ap₂ 𝓐.plus
      (sum_more 𝓐 0 (λ u. f (i + u)) ∙ ap₂ 𝓐.plus (sum_none_terms 𝓐 (λ u. f (i + u))) (ap f (sym e)) ∙ none_plus 𝓐 (f j))
      (sum_same 𝓐 (hi - j) (λ u. f (i + (1 + u))) (λ u. f (j + u)) (λ u lo up. ap f (moved i j u e)))
    where
      terms : (i j hi : ℕ) → j ≡ i + 1 → j ≤ hi → hi - i ≡ 1 + (hi - j)
      terms i j hi e l = omega arith

      moved : (i j u : ℕ) → j ≡ i + 1 → i + (1 + u) ≡ j + u
      moved i j u e = omega arith
