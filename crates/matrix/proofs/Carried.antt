-- A map of letters that takes sums to sums goes through the product: the packets and the pieces of what it makes of a file are what it makes of theirs.
-- A bit lane is such a map, and so is a number's last byte: so each lane is one copy of the papers' code, and from bytes come bytes.
use mathlib.Core.Path.{◌≡◌, sym, ap, ◌∙◌}
use mathlib.Core.Bool.{Bool, true, false, cond}
use mathlib.Core.List.{List, map}
use Prim.Native.Nat.{ℕ, ◌+◌, ◌*◌, min, max}
use lib.Dec.{leb}
use lib.ListN.{length, length-map}
use Rattle.letters.specs.Algebra.{Adding, xors, bytes, bits}
use Rattle.letters.specs.Lanes.{Bytes, lane, Carries}
use Rattle.letters.proofs.Carried.{letter_carried, last_byte, last_carries, lane_carries, bytes_kept, kept_bytes}
use Rattle.shifts.specs.Rule.{t}
use Rattle.system.specs.System.{sequence}
use Rattle.group.specs.declared.Group.{Group}
use Rattle.lengths.specs.Lengths.{file_letters, packet_length, packet_start, repair_letters}
use Rattle.sequences.specs.Lists.{run, joined, ranked}
use Rattle.sequences.proofs.CarriedRuns.{runs_carried, lists_carried, sequence_carried, moved_carried, parts_carried}
use Rattle.sequences.proofs.PartsOfBytes.{buffer_bytes, exactly_one_buffer_of_bytes}
use Rattle.matrix.specs.Matrix.{entry_number, as_file, matrix, packet_letter, packet, packets}
use Rattle.matrix.specs.Pieces.{piece_letter, reading, Chosen}
use Rattle.matrix.specs.Repair.{held_letter, helper_sum, helping, equations}
use Rattle.matrix.proofs.Reading.{shifts, ordered}
use Rattle.matrix.proofs.Theorems.{reading_once, exactly_one_file}

module _ {A B : Type 0} (𝓐 : Adding A) (𝓑 : Adding B) (h : A → B) (c : Carries 𝓐 𝓑 h) (g : Group) where
  matrix_carried : (file : List A) (v u p : ℕ) → h (matrix 𝓐 g file v u p) ≡ matrix 𝓑 g (map h file) v u p
  unfolding matrix
  matrix_carried file v u p = either_way (leb (min v u) g.k)
    where
      number : ℕ
      number = entry_number g.k (min v u) (max v u)

      either_way :
          (b : Bool)
          → h (cond b (sequence 𝓐.none file g.l number p) 𝓐.none) ≡ cond b (sequence 𝓑.none (map h file) g.l number p) 𝓑.none
      either_way true = sequence_carried 𝓐 𝓑 h c file g.l number p
      either_way false = c.none

  packet_letter_carried : (file : List A) (i j p : ℕ) → h (packet_letter 𝓐 g file i j p) ≡ packet_letter 𝓑 g (map h file) i j p
  unfolding packet_letter
  packet_letter_carried file i j p =
      moved_carried 𝓐 𝓑 h c g.d (λ u. matrix 𝓐 g file u j) (λ u. matrix 𝓑 g (map h file) u j) (λ u q. matrix_carried file u j q) (t i) p

  pub packets_carried : (file : List A) (i : ℕ) → map h (packets 𝓐 g file i) ≡ packets 𝓑 g (map h file) i
  unfolding packets packet
  packets_carried file i =
      lists_carried h g.d (packet 𝓐 g file i) (packet 𝓑 g (map h file) i)
      (λ j. runs_carried 𝓐 𝓑 h c (packet_length g i j) (packet_letter 𝓐 g file i j) (packet_letter 𝓑 g (map h file) i j) (λ p. packet_letter_carried file i j p))

  pub reading_carried : (file : List A) (ids : List ℕ) → map h (reading 𝓐 g file ids) ≡ reading 𝓑 g (map h file) ids
  unfolding reading as_file piece_letter
  reading_carried file ids =
      lists_carried h g.d (λ u. joined (min u g.k) (λ v. run g.l (piece_letter 𝓐 g file ids v u)))
      (λ u. joined (min u g.k) (λ v. run g.l (piece_letter 𝓑 g (map h file) ids v u)))
      (λ u.
      lists_carried h (min u g.k) (λ v. run g.l (piece_letter 𝓐 g file ids v u)) (λ v. run g.l (piece_letter 𝓑 g (map h file) ids v u))
      (λ v.
      runs_carried 𝓐 𝓑 h c g.l (piece_letter 𝓐 g file ids v u) (piece_letter 𝓑 g (map h file) ids v u)
      (λ p. packet_letter_carried file (ranked ids v) u (p + t (ranked ids v) v))))

  pub helping_carried :
      (lost helper u : ℕ) (held : List A) → map h (helping 𝓐 g lost helper u held) ≡ helping 𝓑 g lost helper u (map h held)
  unfolding helping helper_sum held_letter
  helping_carried lost helper u held =
      runs_carried 𝓐 𝓑 h c (repair_letters g lost) (λ p. helper_sum 𝓐 g lost helper held (p + t helper u)) (λ p. helper_sum 𝓑 g lost helper (map h held) (p + t helper u))
      (λ p.
      moved_carried 𝓐 𝓑 h c g.d (held_letter 𝓐 g helper held) (held_letter 𝓑 g helper (map h held))
      (λ j q. letter_carried 𝓐 𝓑 h c held (packet_start g helper j) (packet_length g helper j) q) (t lost) (p + t helper u))

  pub equations_carried :
      (lost : ℕ) (helpers : List ℕ) (rebuilt : List A) → map h (equations 𝓐 g lost helpers rebuilt) ≡ equations 𝓑 g lost helpers (map h rebuilt)
  unfolding equations
  equations_carried lost helpers = parts_carried 𝓐 𝓑 h c g.d (repair_letters g lost) (shifts helpers)

-- each of the eight bit lanes is one copy of the papers' code: a lane of the packets is the packets of that lane, and so for the pieces
module _ (g : Group) (b : ℕ) where
  pub packets_lane : (file : List ℕ) (i : ℕ) → map (lane b) (packets xors g file i) ≡ packets bits.adding g (map (lane b) file) i
  packets_lane = packets_carried xors bits.adding (lane b) (lane_carries b) g

  pub reading_lane :
      (file ids : List ℕ) → map (lane b) (reading xors g file ids) ≡ reading bits.adding g (map (lane b) file) ids
  reading_lane = reading_carried xors bits.adding (lane b) (lane_carries b) g

  pub helping_lane :
      (lost helper u : ℕ) (held : List ℕ)
      → map (lane b) (helping xors g lost helper u held) ≡ helping bits.adding g lost helper u (map (lane b) held)
  helping_lane = helping_carried xors bits.adding (lane b) (lane_carries b) g

-- from bytes come bytes
module _ (g : Group) where
  pub packets_bytes : (file : List ℕ) (i : ℕ) → Bytes file → Bytes (packets xors g file i)
  packets_bytes file i b =
      kept_bytes (packets xors g file i) (packets_carried xors xors last_byte last_carries g file i ∙ ap (λ f. packets xors g f i) (bytes_kept file b))

  pub reading_bytes : (file ids : List ℕ) → Bytes file → Bytes (reading xors g file ids)
  reading_bytes file ids b =
      kept_bytes (reading xors g file ids) (reading_carried xors xors last_byte last_carries g file ids ∙ ap (λ f. reading xors g f ids) (bytes_kept file b))

  pub helping_bytes : (lost helper u : ℕ) (held : List ℕ) → Bytes held → Bytes (helping xors g lost helper u held)
  helping_bytes lost helper u held b =
      kept_bytes (helping xors g lost helper u held)
      (helping_carried xors xors last_byte last_carries g lost helper u held ∙ ap (helping xors g lost helper u) (bytes_kept held b))

  -- a file whose reading is bytes is a file of bytes: its last bytes read the same, and no other file does
  pub file_bytes :
      (ids file : List ℕ) → Chosen g g.k ids → length file ≡ file_letters g → Bytes (reading xors g file ids) → Bytes file
  file_bytes ids file chosen long b =
      kept_bytes file
      (reading_once bytes g ids chosen (map last_byte file) file (length-map file last_byte ∙ long) long
      (sym (reading_carried xors xors last_byte last_carries g file ids) ∙ bytes_kept (reading xors g file ids) b))

  -- and so are packets whose equations are bytes
  pub repair_bytes :
      (lost : ℕ) (helpers rebuilt : List ℕ) → Chosen g g.d helpers → length rebuilt ≡ g.d * repair_letters g lost
      → Bytes (equations xors g lost helpers rebuilt) → Bytes rebuilt
  unfolding equations
  repair_bytes lost helpers rebuilt chosen =
      buffer_bytes g.d (repair_letters g lost) (shifts helpers) (ordered g g.d helpers chosen) rebuilt

  -- every content of B*L bytes comes from exactly one file, and that is a file of bytes
  pub exactly_one_file_of_bytes :
      (ids buffer : List ℕ) → Chosen g g.k ids → length buffer ≡ file_letters g → Bytes buffer
      → (file : List ℕ) × (length file ≡ file_letters g) × Bytes file × (reading xors g file ids ≡ buffer)
      × ((other : List ℕ) → length other ≡ file_letters g → reading xors g other ids ≡ buffer → other ≡ file)
  exactly_one_file_of_bytes ids buffer chosen long b =
      let one = exactly_one_file bytes g ids chosen buffer long in
      (one.0, one.1, file_bytes ids one.0 chosen one.1 (rw one.2 b), one.2, one.3)

  -- any d pieces of bytes are the equations of exactly one list of packets, and these are bytes
  pub exactly_one_repair_of_bytes :
      (lost : ℕ) (helpers pieces : List ℕ) → Chosen g g.d helpers → length pieces ≡ g.d * repair_letters g lost → Bytes pieces
      → (rebuilt : List ℕ) × (length rebuilt ≡ g.d * repair_letters g lost) × Bytes rebuilt × (equations xors g lost helpers rebuilt ≡ pieces)
      × ((other : List ℕ) → length other ≡ g.d * repair_letters g lost → equations xors g lost helpers other ≡ pieces → other ≡ rebuilt)
  unfolding equations
  exactly_one_repair_of_bytes lost helpers pieces chosen =
      exactly_one_buffer_of_bytes g.d (repair_letters g lost) (shifts helpers) (ordered g g.d helpers chosen) pieces
