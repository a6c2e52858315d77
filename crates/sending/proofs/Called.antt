-- What a refused call and one that is not refused leave.
use mathlib.Core.Path.{◌≡◌, refl}
use Prim.Native.Nat.{ℕ, ◌+◌, ◌≤◌}
use native.Mathlib.Omega.{arith}
use lib.Dec.{eqb}
use borrow.Author.Tests.{eqb-true, le-leb, eq-eqb}
use Rattle.letters.specs.Places.{both}
use Rattle.group.specs.declared.Group.{Group}
use Rattle.group.specs.Answers.{unless, first}
use Rattle.group.specs.Ranges.{between, most_letters, InRange, NodeOf, group_refusal, node_refusal}
use Rattle.shifts.specs.Rule.{t}
use Rattle.lengths.specs.Lengths.{packet_start, packet_length, node_letters}
use Rattle.lengths.proofs.Sizes.{packet_fits, node_at_most}
use Rattle.group.proofs.Refusals.{first_none, unless_none, both_true}
use Rattle.group.proofs.InRange.{between_true, in_range, range_in, node_of, of_node}
use Rattle.sending.specs.Calls.{place_refusal, piece_refusal, entry_refusal}
use Rattle.matrix.specs.Matrix.{Free}
use Rattle.matrix.proofs.Product.{shift_rises}

-- an entry that the check lets through is a free one
pub place_of : (g : Group) (rank column : ℕ) → InRange g → place_refusal g rank column ≡ 0 → Free g rank column
unfolding place_refusal
place_of g rank column r e =
    let b = both_true (between 1 g.k rank) (between rank g.d column) (unless_none (both (between 1 g.k rank) (between rank g.d column)) 3 (λ q. omega arith) e) in
    let v = between_true 1 g.k rank b.0 in
    let u = between_true rank g.d column b.1 in
    record { group = r; row = v.0; within = u.0; upper = v.1; column = u.1 }

pub of_place : (g : Group) (rank column : ℕ) → Free g rank column → place_refusal g rank column ≡ 0
unfolding place_refusal
of_place g rank column f =
    simp (le-leb 1 rank f.row, le-leb rank g.k f.upper, le-leb rank column f.within, le-leb column g.d f.column)

-- and so of the whole check of an entry
pub entry_of_lem : (g : Group) (rank column : ℕ) → entry_refusal g rank column ≡ 0 → Free g rank column
unfolding entry_refusal
entry_of_lem g rank column e =
    let w = first_none (group_refusal g) (place_refusal g rank column) e in
    place_of g rank column (in_range g w.0) w.1

pub of_entry : (g : Group) (rank column : ℕ) → Free g rank column → entry_refusal g rank column ≡ 0
unfolding entry_refusal
of_entry g rank column f = simp (range_in g f.group, of_place g rank column f)

-- a piece that is not refused is of a node, at a free entry, and its packets are all there
pub piece_of :
    (g : Group) (node rank column held : ℕ) → piece_refusal g node rank column held ≡ 0 → NodeOf g node × Free g rank column × (held ≡ node_letters g node)
unfolding piece_refusal
piece_of g node rank column held e =
    let w = first_none (node_refusal g node) (first (place_refusal g rank column) (unless (eqb held (node_letters g node)) 5)) e in
    let v = first_none (place_refusal g rank column) (unless (eqb held (node_letters g node)) 5) w.1 in
    let n = node_of g node w.0 in (
      n,
      place_of g rank column n.group v.0,
      eqb-true held (node_letters g node) (unless_none (eqb held (node_letters g node)) 5 (λ q. omega arith) v.1),
    )

-- and the other way round
pub of_piece : (g : Group) (node rank column : ℕ) → NodeOf g node → Free g rank column → piece_refusal g node rank column (node_letters g node) ≡ 0
unfolding piece_refusal
of_piece g node rank column n f = simp (of_node g node n, of_place g rank column f, eq-eqb (node_letters g node) (node_letters g node) refl)

-- it lies within the packets, which are not too many
pub piece_fits :
    (g : Group) (node rank column held : ℕ) → piece_refusal g node rank column held ≡ 0
    → (packet_start g node column + t node rank + g.l ≤ held) × (held ≤ most_letters)
unfolding packet_length
piece_fits g node rank column held e =
    let w = piece_of g node rank column held e in (
      omega (arith, w.2, packet_fits g node w.0 column (omega (arith, w.1)) (omega (arith, w.1)), shift_rises node rank g.d (omega (arith, w.0)) (omega (arith, w.1)) (omega (arith, w.1)), w.0, w.1),
      omega (arith, w.2, node_at_most g node w.0),
    )
