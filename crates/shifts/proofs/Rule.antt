-- The rules of documents 01 and 02 (docs/SCHEME.md, 2 and 17) have refined increasing differences: a step of one column is worth i - 1 places at node i under the one, and i under the other.
use mathlib.Core.Path.{◌≡◌, sym, ap, subst}
use mathlib.Core.Logic.{⊎_elim}
use Prim.Native.Nat.{ℕ, ◌+◌, ◌-◌, ◌*◌, ◌≤◌, ◌<◌}
use native.Mathlib.Nat.{mul-le-mul, mul-le-mul_left, mul-pos, mul-add, add-mul, eq-or-lt_of_le}
use native.Mathlib.Omega.{arith}
use Rattle.shifts.specs.Rule.{ShiftRule, t, preview_shift, Refined}

-- from the two inequalities: where two columns have one shift, the node is 1, since any node above 1 grows past node 1's
pub only_at_one :
    (t : ShiftRule) → ((i i' j j' : ℕ) → 1 ≤ i → i < i' → 1 ≤ j → j < j' → t i j' + t i' j < t i' j' + t i j)
    → ((i j j' : ℕ) → 1 ≤ i → 1 ≤ j → j < j' → t i j ≤ t i j') → (i j j' : ℕ) → 1 ≤ i → 1 ≤ j → j < j' → t i j ≡ t i j' → i ≡ 1
only_at_one t growing rising i j j' lo lj h e =
    ⊎_elim (λ one. sym one) (λ above. absurd (omega (arith, growing 1 i j j' (omega arith) above lj h, rising 1 j j' (omega arith) lj h)))
    (eq-or-lt_of_le lo)

-- (a + e)(x + f) + ax is above a(x + f) + (a + e)x by ef
crossed_by : (a e x f : ℕ) → 0 < e → 0 < f → a * (x + f) + (a + e) * x < (a + e) * (x + f) + a * x
crossed_by a e x f he hf =
    simp (mul-add, add-mul) (omega (arith, mul-pos he hf))

crossed : (a b x y : ℕ) → a < b → x < y → a * y + b * x < b * y + a * x
crossed a b x y ha hx =
    subst (λ m. a * y + m * x < m * y + a * x) (back a b ha)
    (subst (λ m. a * m + (a + (b - a)) * x < (a + (b - a)) * m + a * x) (back x y hx)
    (crossed_by a (b - a) x (y - x) (omega arith) (omega arith)))
  where
    back : (a b : ℕ) → a < b → a + (b - a) ≡ b
    back a b h = omega arith

-- a rule by which a step of one column is worth w i places at node i, where w rises from node to node, has refined increasing differences
module _ (w : ℕ → ℕ) (more : (i i' : ℕ) → 1 ≤ i → i < i' → w i < w i') where
  rises : (i j j' : ℕ) → 1 ≤ i → 1 ≤ j → j < j' → w i * (j - 1) ≤ w i * (j' - 1)
  rises i j j' li lj h = mul-le-mul_left (w i) (omega arith)

  grows : (i i' j j' : ℕ) → 1 ≤ i → i < i' → 1 ≤ j → j < j' → w i * (j' - 1) + w i' * (j - 1) < w i' * (j' - 1) + w i * (j - 1)
  grows i i' j j' li h lj h' = crossed (w i) (w i') (j - 1) (j' - 1) (more i i' li h) (omega arith)

  refined_steps : Refined (λ i j. w i * (j - 1))
  refined_steps = record { rising = rises; growing = grows; equal_only_at_one = only_at_one (λ i j. w i * (j - 1)) grows rises }

pub refined : Refined t
unfolding t
refined = refined_steps (λ i. i - 1) (λ i i' li h. omega arith)

pub preview_refined : Refined preview_shift
unfolding preview_shift
preview_refined = refined_steps (λ i. i) (λ i i' li h. h)

-- no shift of the table is above 225
pub at_most : (i j : ℕ) → i ≤ 16 → j ≤ 16 → t i j ≤ 225
unfolding t
at_most i j hi hj = mul-le-mul {n₂ = 15} {m₂ = 15} (omega arith) (omega arith)

-- with one node more than the table has, none is above 240
pub one_node_more : (i j : ℕ) → i ≤ 17 → j ≤ 16 → t i j ≤ 240
unfolding t
one_node_more i j hi hj = mul-le-mul {n₂ = 16} {m₂ = 15} (omega arith) (omega arith)

-- the previews' rule is that of the node after
pub preview_next : (i j : ℕ) → t (i + 1) j ≡ preview_shift i j
unfolding t preview_shift
preview_next i j = ap (λ m. m * (j - 1)) back
  where
    back : i + 1 - 1 ≡ i
    back = omega arith

-- so none of a preview is above 240
pub preview_at_most : (i j : ℕ) → i ≤ 16 → j ≤ 16 → preview_shift i j ≤ 240
preview_at_most i j hi hj = omega (arith, preview_next i j, one_node_more (i + 1) j (omega arith) hj)
