-- The empty part means refused: a piece that isn't refused has L letters, and L is at least 1.
use mathlib.Core.Path.{◌≡◌}
use mathlib.Core.List.{[]}
use Prim.Native.Nat.{ℕ, ◌+◌}
use native.Mathlib.Omega.{arith}
use mathlib.Core.List.{List}
use lib.ListN.{length, drop, length-drop}
use lib.Seq.{length-take-le}
use denote.Ref.{Bor}
use Rattle.shifts.specs.Rule.{t}
use Rattle.group.specs.declared.Group.{Group}
use Rattle.lengths.specs.Lengths.{packet_start}
use Rattle.handing.specs.Parts.{PartOf}
use Rattle.handing.proofs.Handed.{refused_part, part_refused}
use Rattle.matrix.specs.Pieces.{piece_in}
use Rattle.sending.specs.Calls.{piece_refusal, Handed}
use Rattle.sending.proofs.Called.{piece_of, piece_fits}

-- a piece has L letters
pub piece_length :
    (g : Group) (node rank column : ℕ) (held : List ℕ) → piece_refusal g node rank column (length held) ≡ 0
    → length (piece_in g node rank column held) ≡ g.l
unfolding piece_in
piece_length g node rank column held e =
    length-take-le g.l (drop (packet_start g node column + t node rank) held)
    (rw length-drop (omega (arith, piece_fits g node rank column (length held) e)))

module _ (g : Group) (node rank column : ℕ) (held part : Bor (List ℕ)) where
  abbrev Part : Type 0
  Part = PartOf (piece_refusal g node rank column (length held.now)) (packet_start g node column + t node rank) g.l held part

  -- the piece is a part of what was lent, and the other way round
  pub handed_of : Part → Handed g node rank column held part
  unfolding piece_in
  handed_of p = record { letters = p.letters; block = p.block; offset = p.offset }

  of_handed : Handed g node rank column held part → Part
  unfolding piece_in
  of_handed h = record { letters = h.letters; block = h.block; offset = h.offset }

  module _ (handed : Handed g node rank column held part) where
    pub refused_empty : (piece_refusal g node rank column (length held.now) ≡ 0 → ⊥) → part.now ≡ []
    refused_empty = refused_part g.l held part _ _ (of_handed handed)

    pub empty_refused : part.now ≡ [] → piece_refusal g node rank column (length held.now) ≡ 0 → ⊥
    empty_refused none fine =
        part_refused g.l held part _ _ (of_handed handed) (piece_of g node rank column (length held.now) fine).0.group.l_low
        (piece_fits g node rank column (length held.now) fine).0 none fine
