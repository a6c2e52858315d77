-- What a piece is, where it starts and where it goes, whatever comes in.
use Rattle.std.specs.Prelude.{◌≡◌, List, [], ℕ, ◌+◌, ◌-◌, ◌*◌, eqb, length}
use Rattle.std.specs.Borrow.{Bor}
use Rattle.letters.specs.Places.{both}
use Rattle.group.specs.declared.Group.{Group}
use Rattle.group.specs.Answers.{Answer}
use Rattle.group.specs.Answers.{unless, first, if_fine, Answers}
use Rattle.group.specs.Ranges.{between, group_refusal, node_refusal}
use Rattle.lengths.specs.Lengths.{packet_start, node_letters}
use Rattle.shifts.specs.Rule.{t}
use Rattle.matrix.specs.Matrix.{entry_number}
use Rattle.matrix.specs.Pieces.{piece_in}

-- piece and entry: 3 for a rank outside 1..k, or a column outside rank..d
unfoldable pub place_refusal : Group → ℕ → ℕ → ℕ
place_refusal g rank column = unless (both (between 1 g.k rank) (between rank g.d column)) 3

-- piece: 1, 2, 3, and 5 for the packets
unfoldable pub piece_refusal : Group → ℕ → ℕ → ℕ → ℕ → ℕ
unfolding place_refusal
piece_refusal g node rank column held =
    first (node_refusal g node) (first (place_refusal g rank column) (unless (eqb held (node_letters g node)) 5))

-- the part is one of the caller's packets, uncopied: the letters that the node sends, where they stand in the packets; a refused request hands back the empty part
pub record Handed (g : Group) (node rank column : ℕ) (held part : Bor (List ℕ)) : Type 0 where
  pub letters : part.now ≡ if_fine (piece_refusal g node rank column (length held.now)) (piece_in g node rank column held.now) []
  pub block : part.ref_ptr.0 ≡ held.ref_ptr.0
  pub offset :
      part.ref_ptr.1
      ≡ held.ref_ptr.1 + if_fine (piece_refusal g node rank column (length held.now)) (packet_start g node column + t node rank) 0

-- its companion tells where it starts
abbrev pub Starting : Group → ℕ → ℕ → ℕ → ℕ → Answer → Type 0
Starting g node rank column held r = Answers r (piece_refusal g node rank column held) (packet_start g node column + t node rank)

-- entry: 1, 2, 3
unfoldable pub entry_refusal : Group → ℕ → ℕ → ℕ
unfolding place_refusal
entry_refusal g rank column = first (group_refusal g) (place_refusal g rank column)

-- where the collector puts the piece: the index at which entry (rank, column) starts in the buffer
abbrev pub Placed : Group → ℕ → ℕ → Answer → Type 0
Placed g rank column r = Answers r (entry_refusal g rank column) ((entry_number g.k rank column - 1) * g.l)
