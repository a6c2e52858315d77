-- What a check of previews that refuses nothing tells, and what it takes: each is an exactly if.
use mathlib.Core.Path.{◌≡◌}
use Prim.Native.Nat.{ℕ}
use native.Mathlib.Omega.{arith}
use borrow.Author.Tests.{le-leb, eqb-true, eq-eqb}
use Rattle.group.specs.declared.Group.{Group}
use Rattle.group.specs.Answers.{unless}
use Rattle.group.specs.Ranges.{id_refusal}
use Rattle.group.proofs.Refusals.{unless_none, first_none, both_true}
use Rattle.group.proofs.InRange.{between_true, id_known}
use Rattle.preview_numbers.specs.Previews.{longest_preview, preview_numbers_in_range, preview_length_in_range, preview_group_refusal, preview_node_refusal, PreviewRange, PreviewNode}

pub preview_in_range : (g : Group) → preview_group_refusal g ≡ 0 → PreviewRange g
unfolding preview_group_refusal preview_numbers_in_range preview_length_in_range
preview_in_range g e =
    let w = first_none (unless (preview_numbers_in_range g) 1) (unless (preview_length_in_range g) 2) e in
    let a = both_true _ _ (unless_none (preview_numbers_in_range g) 1 (λ q. omega arith) w.0) in
    let b = both_true _ _ a.1 in
    let l = between_true 1 longest_preview g.l (unless_none (preview_length_in_range g) 2 (λ q. omega arith) w.1) in
    let n = between_true 3 16 g.n a.0 in
    let k = between_true 2 g.n g.k b.0 in
    record {
      n_low = n.0;
      n-high = n.1;
      k_low = k.0;
      k-high = k.1;
      no_d = eqb-true g.d 0 b.1;
      l_low = l.0;
      l_high = l.1;
    }

pub range_in_preview : (g : Group) → PreviewRange g → preview_group_refusal g ≡ 0
unfolding preview_group_refusal preview_numbers_in_range preview_length_in_range
range_in_preview g r =
    simp (le-leb 3 g.n r.n_low, le-leb g.n 16 r.n-high, le-leb 2 g.k r.k_low, le-leb g.k g.n r.k-high, eq-eqb g.d 0 r.no_d, le-leb 1 g.l r.l_low, le-leb g.l longest_preview r.l_high)

pub preview_node_of : (g : Group) (i : ℕ) → preview_node_refusal g i ≡ 0 → PreviewNode g i
unfolding preview_node_refusal
preview_node_of g i e =
    let w = first_none (preview_group_refusal g) (id_refusal g i) e in
    let h = id_known g i w.1 in
    record { group = preview_in_range g w.0; low = h.0; high = h.1 }

pub of_preview_node : (g : Group) (i : ℕ) → PreviewNode g i → preview_node_refusal g i ≡ 0
unfolding preview_node_refusal id_refusal
of_preview_node g i r = simp (range_in_preview g r.group, le-leb 1 i r.low, le-leb i g.n r.high)
