-- A map of letters that takes sums to sums goes through the code of previews. A bit lane is such a map, and so is a number's last byte: so each lane is one copy of the papers' code, and from bytes come bytes.
use mathlib.Core.Path.{◌≡◌, sym, ap, ◌∙◌}
use mathlib.Core.List.{List, map}
use Prim.Native.Nat.{ℕ}
use lib.ListN.{length}
use Rattle.letters.specs.Algebra.{Adding, xors, bits}
use Rattle.letters.specs.Lanes.{Bytes, lane, Carries}
use Rattle.letters.proofs.Carried.{last_byte, last_carries, lane_carries, bytes_kept, kept_bytes}
use Rattle.shifts.specs.Rule.{preview_shift}
use Rattle.system.specs.System.{sequence}
use Rattle.group.specs.declared.Group.{Group}
use Rattle.preview_numbers.specs.Previews.{preview_file, preview_packet}
use Rattle.sequences.proofs.CarriedRuns.{runs_carried, sequence_carried, moved_carried, parts_carried}
use Rattle.sequences.proofs.PartsOfBytes.{buffer_bytes, exactly_one_buffer_of_bytes}
use Rattle.preview_product.specs.Preview.{preview_letter, preview_letters, preview_reading, PreviewReaders}
use Rattle.preview_product.proofs.Theorems.{preview_shifts, preview_ordered, reading_parts}

module _ {A B : Type 0} (𝓐 : Adding A) (𝓑 : Adding B) (h : A → B) (c : Carries 𝓐 𝓑 h) (g : Group) where
  pub previews_carried : (file : List A) (i : ℕ) → map h (preview_letters 𝓐 g file i) ≡ preview_letters 𝓑 g (map h file) i
  unfolding preview_letters preview_letter
  previews_carried file i =
      runs_carried 𝓐 𝓑 h c (preview_packet g i) (preview_letter 𝓐 g file i) (preview_letter 𝓑 g (map h file) i)
      (moved_carried 𝓐 𝓑 h c g.k (sequence 𝓐.none file g.l) (sequence 𝓑.none (map h file) g.l)
      (λ a q. sequence_carried 𝓐 𝓑 h c file g.l a q) (preview_shift i))

  pub preview_reading_carried :
      (file : List A) (ids : List ℕ) → map h (preview_reading 𝓐 g file ids) ≡ preview_reading 𝓑 g (map h file) ids
  preview_reading_carried file ids =
      ap (map h) (reading_parts 𝓐 g file ids)
      ∙ parts_carried 𝓐 𝓑 h c g.k g.l (preview_shifts ids) file
      ∙ sym (reading_parts 𝓑 g (map h file) ids)

-- each of the eight bit lanes is one copy of the papers' code
module _ (g : Group) (b : ℕ) where
  pub previews_lane :
      (file : List ℕ) (i : ℕ) → map (lane b) (preview_letters xors g file i) ≡ preview_letters bits.adding g (map (lane b) file) i
  previews_lane = previews_carried xors bits.adding (lane b) (lane_carries b) g

  pub preview_reading_lane :
      (file ids : List ℕ) → map (lane b) (preview_reading xors g file ids) ≡ preview_reading bits.adding g (map (lane b) file) ids
  preview_reading_lane = preview_reading_carried xors bits.adding (lane b) (lane_carries b) g

-- from bytes come bytes
module _ (g : Group) where
  pub previews_bytes : (file : List ℕ) (i : ℕ) → Bytes file → Bytes (preview_letters xors g file i)
  previews_bytes file i b =
      kept_bytes (preview_letters xors g file i)
      (previews_carried xors xors last_byte last_carries g file i ∙ ap (λ f. preview_letters xors g f i) (bytes_kept file b))

  pub preview_reading_bytes : (file ids : List ℕ) → Bytes file → Bytes (preview_reading xors g file ids)
  preview_reading_bytes file ids b =
      kept_bytes (preview_reading xors g file ids)
      (preview_reading_carried xors xors last_byte last_carries g file ids ∙ ap (λ f. preview_reading xors g f ids) (bytes_kept file b))

  module _ (ids : List ℕ) (r : PreviewReaders g ids) where
    -- a file whose reading is bytes is a file of bytes
    pub preview_bytes_lem : (file : List ℕ) → length file ≡ preview_file g → Bytes (preview_reading xors g file ids) → Bytes file
    unfolding preview_file
    preview_bytes_lem file long b =
        buffer_bytes g.k g.l (preview_shifts ids) (preview_ordered g ids r) file long (rw (reading_parts xors g file ids) at b)

    -- every content of k*L bytes comes from exactly one file, and that is a file of bytes
    pub exactly_one_preview_of_bytes :
        (buffer : List ℕ) → length buffer ≡ preview_file g → Bytes buffer
        → (file : List ℕ) × (length file ≡ preview_file g) × Bytes file × (preview_reading xors g file ids ≡ buffer)
        × ((other : List ℕ) → length other ≡ preview_file g → preview_reading xors g other ids ≡ buffer → other ≡ file)
    unfolding preview_file
    exactly_one_preview_of_bytes buffer long b =
        let one = exactly_one_buffer_of_bytes g.k g.l (preview_shifts ids) (preview_ordered g ids r) buffer long b in (
          one.0,
          one.1,
          one.2,
          reading_parts xors g one.0 ids ∙ one.3,
          λ other l e. one.4 other l (sym (reading_parts xors g other ids) ∙ e),
        )
