-- The piece is a part of what was lent, and the empty part means refused: a piece that isn't refused has L letters, and L is at least 1.
use mathlib.Core.Path.{◌≡◌}
use mathlib.Core.List.{List, []}
use Prim.Native.Nat.{ℕ}
use lib.ListN.{length}
use denote.Ref.{Bor}
use Rattle.shifts.specs.Rule.{preview_shift}
use Rattle.group.specs.declared.Group.{Group}
use Rattle.handing.specs.Parts.{PartOf}
use Rattle.handing.proofs.Handed.{refused_part, part_refused}
use Rattle.preview_product.specs.Preview.{preview_piece_in}
use Rattle.preview_pieces.specs.Calls.{preview_piece_refusal, PreviewHanded}
use Rattle.preview_pieces.proofs.Called.{preview_piece_of, preview_piece_fits}

module _ (g : Group) (node rank : ℕ) (held part : Bor (List ℕ)) where
  abbrev Part : Type 0
  Part = PartOf (preview_piece_refusal g node rank (length held.now)) (preview_shift node rank) g.l held part

  pub preview_handed_of : Part → PreviewHanded g node rank held part
  unfolding preview_piece_in
  preview_handed_of p = record { letters = p.letters; block = p.block; offset = p.offset }

  of_handed : PreviewHanded g node rank held part → Part
  unfolding preview_piece_in
  of_handed h = record { letters = h.letters; block = h.block; offset = h.offset }

  module _ (handed : PreviewHanded g node rank held part) where
    pub preview_refused_empty : (preview_piece_refusal g node rank (length held.now) ≡ 0 → ⊥) → part.now ≡ []
    preview_refused_empty = refused_part g.l held part _ _ (of_handed handed)

    pub preview_empty_refused : part.now ≡ [] → preview_piece_refusal g node rank (length held.now) ≡ 0 → ⊥
    preview_empty_refused none fine =
        part_refused g.l held part _ _ (of_handed handed) (preview_piece_of g node rank (length held.now) fine).0.group.l_low
        (preview_piece_fits g node rank (length held.now) fine) none fine
