-- Bounds and short searches: how far a state can be, and what the search finds in one byte.
use mathlib.Core.Path.{◌≡◌, refl, sym, ◌∙◌}
use mathlib.Core.Bool.{Bool, true, false, not}
use mathlib.Core.List.{[], ◌∷◌}
use mathlib.Core.Logic.{⊎_elim}
use Prim.Native.Nat.{ℕ, ◌+◌, ◌^◌, ◌≤◌, ◌<◌}
use native.Mathlib.Omega.{arith}
use lib.Dec.{eqb}
use borrow.Author.Tests.{eq-eqb, ne_eqb}
use Rattle.letters.proofs.Cases.{le_or_lt, eq_or_ne}
use Rattle.heads.specs.declared.Head.{Head}
use Rattle.kinds.specs.Kinds.{head_size}
use Rattle.kinds.proofs.RowLaws.{size_small}
use Rattle.heads.specs.Heads.{heads}
use Rattle.heads.proofs.HeadLaws.{total_small, total_some, some_numbers}
use Rattle.searching.specs.Steps.Search.{stands_at, farthest, StopsFrom}
use Rattle.reaching.specs.Steps.Reaching.{Within, HeadAt}

-- no share is longer than this
pub near : (h : Head) (at : ℕ) → HeadAt h at → at ≤ farthest
near h at w =
    ⊎_elim (λ long. omega (arith, w.share long, total_small h, size_small h.kind)) (λ few. omega (arith, size_small h.kind)) (le_or_lt (head_size h.kind) at)

-- numbers in range are those that give a share some letters
pub within_numbers : (h : Head) (at : ℕ) → head_size h.kind ≤ at → h.batch < 2 ^ 32 → Within h.kind (heads.total h) at → HeadAt h at
within_numbers h at long small w =
    record {
      partly = λ few. absurd (omega arith);
      whole = λ l. some_numbers h small w.some;
      share = λ l. w.share;
    }

pub numbers_within : (h : Head) (at : ℕ) → head_size h.kind ≤ at → HeadAt h at → Within h.kind (heads.total h) at
numbers_within h at long w = record { some = total_some h (w.whole long); share = w.share long }

-- one byte is passed exactly if it stands
pub passes_one : (at : ℕ) (h : Head) (byte q : ℕ) → StopsFrom at h (byte ∷ []) q → eqb q 1 ≡ stands_at h at byte
passes_one at h byte q s =
    ⊎_elim
    (λ one. eq-eqb q 1 one ∙ sym (rw here at (s.before 0 (omega arith))))
    (λ other.
    let none : q ≡ 0 = omega (arith, s.within, other) in
    ne_eqb q 1 other ∙ sym (rw (none, here) at (s.wrong (omega arith))))
    (eq_or_ne q 1)
  where
    here : at + 0 ≡ at
    here = omega arith

-- what isn't true is false
pub not_is : (b : Bool) → (b ≡ true → ⊥) → not b ≡ true
not_is true n = absurd (n refl)
not_is false n = refl
