-- What a refused piece or entry of a preview and one that is not refused tell.
use mathlib.Core.Path.{◌≡◌, refl}
use Prim.Native.Nat.{ℕ, ◌+◌, ◌-◌, ◌*◌, ◌≤◌}
use native.Mathlib.Nat.{mul-le-mul}
use native.Mathlib.Omega.{arith}
use lib.Dec.{eqb}
use borrow.Author.Tests.{eqb-true, le-leb, eq-eqb}
use Rattle.shifts.specs.Rule.{preview_shift}
use Rattle.group.specs.declared.Group.{Group}
use Rattle.group.specs.Answers.{unless, first}
use Rattle.group.specs.Ranges.{between, most_nodes}
use Rattle.group.proofs.Refusals.{first_none, unless_none}
use Rattle.group.proofs.InRange.{between_true}
use Rattle.preview_numbers.specs.Previews.{longest_preview, preview_group_refusal, preview_node_refusal, preview_packet, PreviewRange, PreviewNode}
use Rattle.preview_numbers.proofs.InRange.{preview_in_range, range_in_preview, preview_node_of, of_preview_node}
use Rattle.preview_product.proofs.Theorems.{inside_preview}
use Rattle.preview_pieces.specs.Calls.{rank_refusal, preview_piece_refusal, preview_entry_refusal}

-- a rank that the check lets through is one of 1..k, and the other way round
pub rank_of : (g : Group) (rank : ℕ) → rank_refusal g rank ≡ 0 → (1 ≤ rank) × (rank ≤ g.k)
unfolding rank_refusal
rank_of g rank e = between_true 1 g.k rank (unless_none (between 1 g.k rank) 3 (λ q. omega arith) e)

pub of_rank : (g : Group) (rank : ℕ) → 1 ≤ rank → rank ≤ g.k → rank_refusal g rank ≡ 0
unfolding rank_refusal
of_rank g rank lo hi = simp (le-leb 1 rank lo, le-leb rank g.k hi)

-- and so of the whole check of an entry
pub preview_entry_of : (g : Group) (rank : ℕ) → preview_entry_refusal g rank ≡ 0 → PreviewRange g × ((1 ≤ rank) × (rank ≤ g.k))
unfolding preview_entry_refusal
preview_entry_of g rank e =
    let w = first_none (preview_group_refusal g) (rank_refusal g rank) e in
    (preview_in_range g w.0, rank_of g rank w.1)

-- where it starts is no large number
pub preview_entry_at_most : (g : Group) (rank : ℕ) → preview_entry_refusal g rank ≡ 0 → (rank - 1) * g.l ≤ most_nodes * longest_preview
preview_entry_at_most g rank e =
    let w = preview_entry_of g rank e in
    mul-le-mul {n₁ = rank - 1} {m₁ = g.l} {n₂ = most_nodes} {m₂ = longest_preview} (omega (arith, w.0, w.1)) w.0.l_high

pub of_preview_entry : (g : Group) (rank : ℕ) → PreviewRange g → 1 ≤ rank → rank ≤ g.k → preview_entry_refusal g rank ≡ 0
unfolding preview_entry_refusal
of_preview_entry g rank r lo hi = simp (range_in_preview g r, of_rank g rank lo hi)

-- a piece that is not refused is of a node, at a rank, and its packet is all there
pub preview_piece_of :
    (g : Group) (node rank held : ℕ) → preview_piece_refusal g node rank held ≡ 0
    → PreviewNode g node × ((1 ≤ rank) × (rank ≤ g.k)) × (held ≡ preview_packet g node)
unfolding preview_piece_refusal
preview_piece_of g node rank held e =
    let w = first_none (preview_node_refusal g node) (first (rank_refusal g rank) (unless (eqb held (preview_packet g node)) 5)) e in
    let v = first_none (rank_refusal g rank) (unless (eqb held (preview_packet g node)) 5) w.1 in (
      preview_node_of g node w.0,
      rank_of g rank v.0,
      eqb-true held (preview_packet g node) (unless_none (eqb held (preview_packet g node)) 5 (λ q. omega arith) v.1),
    )

-- and the other way round
pub of_preview_piece :
    (g : Group) (node rank : ℕ) → PreviewNode g node → 1 ≤ rank → rank ≤ g.k → preview_piece_refusal g node rank (preview_packet g node) ≡ 0
unfolding preview_piece_refusal
of_preview_piece g node rank n lo hi =
    simp (of_preview_node g node n, of_rank g rank lo hi, eq-eqb (preview_packet g node) (preview_packet g node) refl)

-- it lies within the packet
pub preview_piece_fits : (g : Group) (node rank held : ℕ) → preview_piece_refusal g node rank held ≡ 0 → preview_shift node rank + g.l ≤ held
preview_piece_fits g node rank held e =
    let w = preview_piece_of g node rank held e in
    omega (arith, w.2, inside_preview g node rank w.0 w.1.0 w.1.1)
