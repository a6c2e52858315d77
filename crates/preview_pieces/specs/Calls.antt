-- What a piece of a preview is, where it starts and where it goes, whatever comes in.
use Rattle.std.specs.Prelude.{◌≡◌, List, [], ℕ, ◌+◌, ◌-◌, ◌*◌, eqb, length}
use Rattle.std.specs.Borrow.{Bor}
use Rattle.shifts.specs.Rule.{preview_shift}
use Rattle.group.specs.declared.Group.{Group}
use Rattle.group.specs.Answers.{Answer}
use Rattle.group.specs.Answers.{unless, first, if_fine, Answers}
use Rattle.group.specs.Ranges.{between}
use Rattle.preview_numbers.specs.Previews.{preview_group_refusal, preview_node_refusal, preview_packet}
use Rattle.preview_product.specs.Preview.{preview_piece_in}

-- piece and entry: 3 for a rank outside 1..k
unfoldable pub rank_refusal : Group → ℕ → ℕ
rank_refusal g rank = unless (between 1 g.k rank) 3

-- piece: 1, 2, 3, and 5 for the packet
unfoldable pub preview_piece_refusal : Group → ℕ → ℕ → ℕ → ℕ
unfolding rank_refusal
preview_piece_refusal g node rank held =
    first (preview_node_refusal g node) (first (rank_refusal g rank) (unless (eqb held (preview_packet g node)) 5))

-- the part is one of the caller's packet, uncopied: the letters that the node sends, where they stand in it; a refused request hands back the empty part
pub record PreviewHanded (g : Group) (node rank : ℕ) (held part : Bor (List ℕ)) : Type 0 where
  pub letters : part.now ≡ if_fine (preview_piece_refusal g node rank (length held.now)) (preview_piece_in g node rank held.now) []
  pub block : part.ref_ptr.0 ≡ held.ref_ptr.0
  pub offset :
      part.ref_ptr.1 ≡ held.ref_ptr.1 + if_fine (preview_piece_refusal g node rank (length held.now)) (preview_shift node rank) 0

-- its companion tells where it starts
abbrev pub PreviewStarting : Group → ℕ → ℕ → ℕ → Answer → Type 0
PreviewStarting g node rank held r = Answers r (preview_piece_refusal g node rank held) (preview_shift node rank)

-- entry: 1, 2, 3
unfoldable pub preview_entry_refusal : Group → ℕ → ℕ
unfolding rank_refusal
preview_entry_refusal g rank = first (preview_group_refusal g) (rank_refusal g rank)

-- where the collector puts the piece: the index at which sequence v starts in the buffer
abbrev pub PreviewPlaced : Group → ℕ → Answer → Type 0
PreviewPlaced g rank r = Answers r (preview_entry_refusal g rank) ((rank - 1) * g.l)
