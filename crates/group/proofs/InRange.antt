-- What a check that refuses nothing tells, and what it takes: each is an exactly if.
use mathlib.Core.Path.{◌≡◌}
use mathlib.Core.Bool.{true}
use Prim.Native.Nat.{ℕ, ◌-◌, ◌≤◌}
use native.Mathlib.Omega.{arith}
use lib.Dec.{leb}
use borrow.Author.Tests.{leb-true, le-leb}
use Rattle.group.specs.declared.Group.{Group}
use Rattle.group.specs.Answers.{unless}
use Rattle.group.specs.Ranges.{between, longest, numbers_in_range, length_in_range, group_refusal, id_refusal, node_refusal, InRange, NodeOf}
use Rattle.group.proofs.Refusals.{unless_none, first_none, both_true}

pub between_true : (lo hi x : ℕ) → between lo hi x ≡ true → (lo ≤ x) × (x ≤ hi)
between_true lo hi x e =
    let w = both_true (leb lo x) (leb x hi) e in
    (leb-true lo x w.0, leb-true x hi w.1)

pub true_between : (lo hi x : ℕ) → lo ≤ x → x ≤ hi → between lo hi x ≡ true
true_between lo hi x l h = simp (le-leb lo x l, le-leb x hi h)

pub in_range : (g : Group) → group_refusal g ≡ 0 → InRange g
unfolding group_refusal numbers_in_range length_in_range
in_range g e =
    let w = first_none (unless (numbers_in_range g) 1) (unless (length_in_range g) 2) e in
    let a = both_true _ _ (unless_none (numbers_in_range g) 1 (λ q. omega arith) w.0) in
    let b = both_true _ _ a.1 in
    let l = between_true 1 longest g.l (unless_none (length_in_range g) 2 (λ q. omega arith) w.1) in
    let n = between_true 3 16 g.n a.0 in
    let k = between_true 2 g.d g.k b.0 in
    let d = leb-true g.d (g.n - 1) b.1 in
    record {
      n_low = n.0;
      n-high = n.1;
      k_low = k.0;
      k-high = k.1;
      d_high = omega arith;
      l_low = l.0;
      l_high = l.1;
    }

pub range_in : (g : Group) → InRange g → group_refusal g ≡ 0
unfolding group_refusal numbers_in_range length_in_range
range_in g r =
    simp (le-leb 3 g.n r.n_low, le-leb g.n 16 r.n-high, le-leb 2 g.k r.k_low, le-leb g.k g.d r.k-high, le-leb g.d (g.n - 1) (omega arith), le-leb 1 g.l r.l_low, le-leb g.l longest r.l_high)

pub id_known : (g : Group) (i : ℕ) → id_refusal g i ≡ 0 → (1 ≤ i) × (i ≤ g.n)
unfolding id_refusal
id_known g i e = between_true 1 g.n i (unless_none (between 1 g.n i) 3 (λ q. omega arith) e)

pub node_of : (g : Group) (i : ℕ) → node_refusal g i ≡ 0 → NodeOf g i
unfolding node_refusal
node_of g i e =
    let w = first_none (group_refusal g) (id_refusal g i) e in
    let h = id_known g i w.1 in
    record { group = in_range g w.0; low = h.0; high = h.1 }

pub of_node : (g : Group) (i : ℕ) → NodeOf g i → node_refusal g i ≡ 0
unfolding node_refusal id_refusal
of_node g i r = simp (range_in g r.group, le-leb 1 i r.low, le-leb i g.n r.high)
