-- The code of previews, document 02's Ask 4 (docs/SCHEME.md, 17): the packet of a node, the pieces of k nodes, and the count. A file is k sequences of L letters, one after another.
use Rattle.std.specs.Prelude.{List, ℕ, ◌+◌, take, drop}
use Rattle.letters.specs.Algebra.{Adding}
use Rattle.shifts.specs.Rule.{preview_shift}
use Rattle.system.specs.System.{sequence}
use Rattle.system.specs.Order.{ruled}
use Rattle.system.specs.Count.{additions, cost}
use Rattle.group.specs.declared.Group.{Group}
use Rattle.preview_numbers.specs.Previews.{preview_packet, PreviewRange}
use Rattle.sequences.specs.Lists.{run, joined, ranked}
use Rattle.sequences.specs.Moved.{moved}
use Rattle.sequences.specs.Chosen.{ChosenIds}

module _ {A : Type 0} (𝓐 : Adding A) (g : Group) (file : List A) where
  -- letter p of node i's packet: the sum over u = 1..k of letter p - t(i,u) of sequence u
  unfoldable pub preview_letter : ℕ → ℕ → A
  unfolding moved sequence preview_shift
  preview_letter i p = moved 𝓐 g.k (preview_shift i) (sequence 𝓐.none file g.l) p

  -- what node i holds: its one packet
  unfoldable pub preview_letters : ℕ → List A
  unfolding run preview_letter preview_packet
  preview_letters i = run (preview_packet g i) (preview_letter i)

  module _ (ids : List ℕ) where
    -- the piece of rank v: letters t(iv,v)+1 .. t(iv,v)+L of the packet of node iv
    unfoldable pub preview_piece : ℕ → List A
    unfolding run preview_letter preview_shift ranked
    preview_piece v = run g.l (λ p. preview_letter (ranked ids v) (p + preview_shift (ranked ids v) v))

    -- what reading the k nodes gives: the pieces by rank, laid out as the file
    unfoldable pub preview_reading : List A
    unfolding joined preview_piece
    preview_reading = joined g.k preview_piece

-- what a node sends as rank v: that part of its packet
unfoldable pub preview_piece_in : {A : Type 0} → Group → ℕ → ℕ → List A → List A
unfolding preview_shift
preview_piece_in g i v held = take g.l (drop (preview_shift i v) held)

-- the count of recovery, where this is the file that comes out: the terms of solving with s = k and N = L whose letter isn't zero
unfoldable pub preview_count : Group → List ℕ → List ℕ → ℕ
unfolding additions sequence ranked preview_shift
preview_count g ids file = additions g.k g.l (ruled preview_shift (ranked ids)) (sequence 0 file g.l)

-- the number of all those terms: document 01's solving sum (docs/SCHEME.md, 8)
unfoldable pub preview_cost : Group → List ℕ → ℕ
unfolding cost ranked preview_shift
preview_cost g ids = cost g.k g.l (ruled preview_shift (ranked ids))

-- Ids that may be read: k of them, of the group, and strictly falling.
pub record PreviewReaders (g : Group) (ids : List ℕ) : Type 0 where
  pub group : PreviewRange g
  pub nodes : ChosenIds g.n g.k ids
