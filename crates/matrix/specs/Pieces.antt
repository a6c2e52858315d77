-- The pieces that k nodes send, and the collector's buffer: document 01's "Reading k nodes and recovery" (docs/SCHEME.md, 5).
use Rattle.std.specs.Prelude.{List, ℕ, ◌+◌, take, drop}
use Rattle.letters.specs.Algebra.{Adding}
use Rattle.shifts.specs.Rule.{t}
use Rattle.group.specs.declared.Group.{Group}
use Rattle.group.specs.Ranges.{InRange}
use Rattle.lengths.specs.Lengths.{packet_start}
use Rattle.sequences.specs.Lists.{run, ranked}
use Rattle.sequences.specs.Chosen.{ChosenIds}
use Rattle.matrix.specs.Matrix.{as_file, packet_letter}

-- what a node sends as rank v of column u: that part of its packets, letters t(i,v)+1 .. t(i,v)+L of packet u
unfoldable pub piece_in : {A : Type 0} → Group → ℕ → ℕ → ℕ → List A → List A
unfolding packet_start t
piece_in g i v u held = take g.l (drop (packet_start g i u + t i v) held)

module _ {A : Type 0} (𝓐 : Adding A) (g : Group) (file : List A) (ids : List ℕ) where
  -- letter p of the piece of rank v and column u
  unfoldable pub piece_letter : ℕ → ℕ → ℕ → A
  unfolding packet_letter ranked t
  piece_letter v u p = packet_letter 𝓐 g file (ranked ids v) u (p + t (ranked ids v) v)

  unfoldable pub piece : ℕ → ℕ → List A
  unfolding run piece_letter
  piece v u = run g.l (piece_letter v u)

  -- what reading the k nodes gives: the pieces at their entries, laid out as the file
  unfoldable pub reading : List A
  unfolding as_file piece_letter
  reading = as_file g piece_letter

-- Ids that may be read, or that may help: as many as are wanted, of the group, and strictly falling.
pub record Chosen (g : Group) (wanted : ℕ) (ids : List ℕ) : Type 0 where
  pub group : InRange g
  pub nodes : ChosenIds g.n wanted ids
