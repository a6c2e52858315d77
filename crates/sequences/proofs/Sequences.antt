-- Runs of one length, one after another: where they start, what stands in them, and that any list of their length with their letters is them.
use mathlib.Core.Path.{◌≡◌, sym, ap, ◌∙◌}
use mathlib.Core.List.{List}
use Prim.Native.Nat.{ℕ, ◌+◌, ◌-◌, ◌*◌, ◌≤◌, ◌<◌}
use native.Mathlib.Nat.{add-mul, zero-mul, one-mul}
use native.Mathlib.Omega.{arith}
use lib.ListN.{length, get_or, take, drop}
use lib.Seq.{get_or-take, get_or-drop}
use Rattle.system.specs.System.{sequence}
use Rattle.system.proofs.System.{sequence_inside}
use Rattle.sequences.specs.Lists.{run, joined}
use Rattle.sequences.proofs.Lists.{length_run, get_d_run, ListStarts, length_joined, get_d_joined, is_joined}

-- sequences of one length start at multiples of it
times_next : (m n : ℕ) → 1 ≤ m → (m + 1 - 1) * n ≡ (m - 1) * n + n
times_next m n h = ap (λ q. q * n) more ∙ add-mul (m - 1) 1 n ∙ ap (λ q. (m - 1) * n + q) (one-mul n)
  where
    more : m + 1 - 1 ≡ m - 1 + 1
    more = omega arith

-- the places of a run and the indices of its list
pub place_index : (p : ℕ) → 1 ≤ p → p - 1 + 1 ≡ p
place_index p lo = omega arith

module _ {A : Type 0} (none : A) (s n : ℕ) (f : ℕ → ℕ → A) where
  pub runs_start : ListStarts s (λ a. run n (f a)) (λ a. (a - 1) * n)
  runs_start =
      record { first = zero-mul n; next = λ a lo hi. times_next a n lo ∙ ap (λ m. (a - 1) * n + m) (sym (length_run n (f a))) }

  pub length_runs : length (joined s (λ a. run n (f a))) ≡ s * n
  length_runs = length_joined s (λ a. run n (f a)) (λ a. (a - 1) * n) runs_start ∙ ap (λ m. m * n) back
    where
      back : s + 1 - 1 ≡ s
      back = omega arith

  pub get_d_runs :
      (a q : ℕ) → 1 ≤ a → a ≤ s → q < n → get_or (joined s (λ a. run n (f a))) ((a - 1) * n + q) none ≡ f a (q + 1)
  get_d_runs a q la ha h =
      get_d_joined s (λ a. run n (f a)) (λ a. (a - 1) * n) none runs_start a q la ha (rw length_run h) ∙ get_d_run n (f a) none q h

  pub runs_at :
      (a p : ℕ) → 1 ≤ a → a ≤ s → 1 ≤ p → p ≤ n → sequence none (joined s (λ a. run n (f a))) n a p ≡ f a p
  runs_at a p la ha lp hp =
      sequence_inside none (joined s (λ a. run n (f a))) n a p lp hp
      ∙ get_d_runs a (p - 1) la ha (omega arith)
      ∙ ap (f a) (place_index p lp)

  pub is_runs :
      (xs : List A) → length xs ≡ s * n
      → ((a p : ℕ) → 1 ≤ a → a ≤ s → 1 ≤ p → p ≤ n → sequence none xs n a p ≡ f a p) → xs ≡ joined s (λ a. run n (f a))
  is_runs xs long has =
      is_joined none s (λ a. run n (f a)) (λ a. (a - 1) * n) runs_start xs (long ∙ ap (λ m. m * n) back)
      (λ a q la ha h.
      let short : q < n = rw length_run at h in
      ap (λ p. get_or xs ((a - 1) * n + p) none) (index q)
      ∙ sym (sequence_inside none xs n a (q + 1) (omega arith) (omega arith))
      ∙ has a (q + 1) la ha (omega arith) (omega arith)
      ∙ sym (get_d_run n (f a) none q short))
    where
      back : s ≡ s + 1 - 1
      back = omega arith

      index : (q : ℕ) → q ≡ q + 1 - 1
      index q = omega arith

-- a run that was put where sequence a lies is that sequence
pub placed_run :
    {A : Type 0} (none : A) (xs : List A) (n a : ℕ) (f : ℕ → A) → take n (drop ((a - 1) * n) xs) ≡ run n f
    → (p : ℕ) → 1 ≤ p → p ≤ n → sequence none xs n a p ≡ f p
placed_run none xs n a f is p lp hp =
    sequence_inside none xs n a p lp hp
    ∙ sym (get_or-drop ((a - 1) * n) xs (p - 1) none)
    ∙ sym (get_or-take n (drop ((a - 1) * n) xs) (p - 1) none (omega arith))
    ∙ ap (λ ys. get_or ys (p - 1) none) is
    ∙ get_d_run n f none (p - 1) (omega arith)
    ∙ ap f (place_index p lp)
