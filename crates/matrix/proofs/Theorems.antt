-- The theorems of demands 2 and 3, stated about the matrix product.
use mathlib.Core.Path.{◌≡◌, sym, ap, ◌∙◌}
use mathlib.Core.List.{List}
use Prim.Native.Nat.{ℕ, ◌+◌, ◌-◌, ◌*◌, ◌≤◌, ◌<◌}
use native.Mathlib.Omega.{arith}
use lib.ListN.{length, get_or, take, drop, length-drop}
use lib.Seq.{get_or-take, get_or-drop, length-take-le}
use Rattle.letters.specs.Algebra.{Adding, Letters}
use Rattle.shifts.specs.Rule.{t}
use Rattle.system.specs.System.{sequence}
use Rattle.group.specs.declared.Group.{Group}
use Rattle.group.specs.Ranges.{NodeOf}
use Rattle.lengths.specs.Lengths.{file_letters, packet_start, packet_length, repair_letters}
use Rattle.sequences.specs.Lists.{ranked}
use Rattle.matrix.specs.Matrix.{entry_number, packet, packet_letter, packets}
use Rattle.matrix.specs.Pieces.{piece_in, piece_letter, piece, reading, Chosen}
use Rattle.matrix.specs.Repair.{equations}
use Rattle.matrix.specs.Matrix.{Free}
use Rattle.matrix.proofs.Files.{as_file_at, length_as_file}
use Rattle.sequences.proofs.Lists.{is_run}
use Rattle.matrix.proofs.Product.{shift_rises, packets_at, packet_at, length_packets}
use Rattle.matrix.proofs.Reading.{shifts, ordered, one_file}
use Rattle.sequences.proofs.Parts.{exactly_one_buffer}
use Rattle.matrix.proofs.SomeFile.{source, length_source, reads_buffer}
use Rattle.lengths.proofs.Sizes.{packet_fits}

module _ {A : Type 0} (𝓛 : Letters A) (g : Group) (ids : List ℕ) (chosen : Chosen g g.k ids) where
  pub length_reading : (file : List A) → length (reading 𝓛.adding g file ids) ≡ file_letters g
  unfolding reading
  length_reading file = length_as_file 𝓛.adding.none g chosen.group (piece_letter 𝓛.adding g file ids)

  -- two files of B*L letters with one reading are one file
  pub reading_once :
      (file other : List A) → length file ≡ file_letters g → length other ≡ file_letters g
      → reading 𝓛.adding g file ids ≡ reading 𝓛.adding g other ids → file ≡ other
  unfolding reading
  reading_once file other long long' same =
      one_file 𝓛 g ids chosen file other
      (λ u v p lu hu lv hv lp hp.
      sym (as_file_at 𝓛.adding.none g chosen.group (piece_letter 𝓛.adding g file ids) u v p lu hu lv hv lp hp)
      ∙ ap (λ xs. sequence 𝓛.adding.none xs g.l (entry_number g.k v u) p) same
      ∙ as_file_at 𝓛.adding.none g chosen.group (piece_letter 𝓛.adding g other ids) u v p lu hu lv hv lp hp)
      long long'

  -- every content of B*L letters is the reading of exactly one file
  pub exactly_one_file :
      (buffer : List A) → length buffer ≡ file_letters g
      → (file : List A) × (length file ≡ file_letters g) × (reading 𝓛.adding g file ids ≡ buffer)
      × ((other : List A) → length other ≡ file_letters g → reading 𝓛.adding g other ids ≡ buffer → other ≡ file)
  exactly_one_file buffer long = (
    source 𝓛 g ids chosen buffer,
    length_source 𝓛 g ids chosen buffer,
    reads_buffer 𝓛 g ids chosen buffer long,
    λ other l e.
        reading_once other (source 𝓛 g ids chosen buffer) l (length_source 𝓛 g ids chosen buffer) (e ∙ sym (reads_buffer 𝓛 g ids chosen buffer long)),
  )

module _ {A : Type 0} (𝓛 : Letters A) (g : Group) (lost : ℕ) (helpers : List ℕ) (chosen : Chosen g g.d helpers) where
  -- any d pieces whatever are the equations of exactly one list of packets
  pub exactly_one_repair :
      (pieces : List A) → length pieces ≡ g.d * repair_letters g lost
      → (rebuilt : List A) × (length rebuilt ≡ g.d * repair_letters g lost) × (equations 𝓛.adding g lost helpers rebuilt ≡ pieces)
      × ((other : List A) → length other ≡ g.d * repair_letters g lost → equations 𝓛.adding g lost helpers other ≡ pieces → other ≡ rebuilt)
  unfolding equations
  exactly_one_repair = exactly_one_buffer 𝓛 g.d (repair_letters g lost) (shifts helpers) (ordered g g.d helpers chosen)

-- a piece lies within its packet
inside_packet : (g : Group) (i v u : ℕ) → NodeOf g i → Free g v u → t i v + g.l ≤ packet_length g i u
unfolding packet_length
inside_packet g i v u node f = omega (arith, shift_rises i v g.d (omega arith) (omega arith) (omega arith))

-- what a node hands back of its packets is the piece of the reading
pub piece_handed :
    {A : Type 0} (𝓐 : Adding A) (g : Group) (file : List A) (ids : List ℕ) (v u : ℕ) → NodeOf g (ranked ids v) → Free g v u
    → piece_in g (ranked ids v) v u (packets 𝓐 g file (ranked ids v)) ≡ piece 𝓐 g file ids v u
unfolding piece_in piece piece_letter
piece_handed {A} 𝓐 g file ids v u node f =
    is_run 𝓐.none g.l (λ p. packet_letter 𝓐 g file (ranked ids v) u (p + t (ranked ids v) v)) part
    (length-take-le g.l (drop at (packets 𝓐 g file (ranked ids v))) (rw length-drop (omega (arith, fits, length_packets 𝓐 g file (ranked ids v), packet_fits g (ranked ids v) node u (omega arith) (omega arith)))))
    (λ q h.
    get_or-take g.l (drop at (packets 𝓐 g file (ranked ids v))) q 𝓐.none h
    ∙ get_or-drop at (packets 𝓐 g file (ranked ids v)) q 𝓐.none
    ∙ ap (λ i. get_or (packets 𝓐 g file (ranked ids v)) i 𝓐.none) (place q)
    ∙ packets_at 𝓐 g file (ranked ids v) u (q + t (ranked ids v) v) (omega arith) (omega arith) (within q h)
    ∙ ap (λ i. get_or (packet 𝓐 g file (ranked ids v) u) i 𝓐.none) (back q)
    ∙ packet_at 𝓐 g file (ranked ids v) u (q + 1 + t (ranked ids v) v) (omega arith) (reach q h))
  where
    at : ℕ
    at = packet_start g (ranked ids v) u + t (ranked ids v) v

    part : List A
    part = take g.l (drop at (packets 𝓐 g file (ranked ids v)))

    fits : at + g.l ≤ packet_start g (ranked ids v) u + packet_length g (ranked ids v) u
    fits = omega (arith, inside_packet g (ranked ids v) v u node f)

    within : (q : ℕ) → q < g.l → q + t (ranked ids v) v < packet_length g (ranked ids v) u
    within q h = omega (arith, inside_packet g (ranked ids v) v u node f)

    reach : (q : ℕ) → q < g.l → q + 1 + t (ranked ids v) v ≤ packet_length g (ranked ids v) u
    reach q h = omega (arith, inside_packet g (ranked ids v) v u node f)

    place : (q : ℕ) → at + q ≡ packet_start g (ranked ids v) u + (q + t (ranked ids v) v)
    place q = omega arith

    back : (q : ℕ) → q + t (ranked ids v) v ≡ q + 1 + t (ranked ids v) v - 1
    back q = omega arith
