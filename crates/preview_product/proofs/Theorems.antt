-- Demand 2 for previews: reading k nodes gives the parts of the file's k sequences, under a rule with refined increasing differences, so every content of the collector's buffer comes from exactly one file.
use mathlib.Core.Path.{◌≡◌, refl, sym, ap, ◌∙◌}
use mathlib.Core.List.{List}
use mathlib.Core.Logic.{⊎_elim}
use Prim.Native.Nat.{ℕ, ◌+◌, ◌≤◌}
use native.Mathlib.Nat.{eq-or-lt_of_le}
use native.Mathlib.Omega.{arith}
use lib.ListN.{length}
use Rattle.letters.specs.Algebra.{Adding, Letters}
use Rattle.shifts.specs.Rule.{preview_shift}
use Rattle.shifts.proofs.Rule.{preview_refined}
use Rattle.system.specs.System.{part}
use Rattle.system.specs.Order.{Ordered, ruled}
use Rattle.system.proofs.Order.{falling_ordered}
use Rattle.group.specs.declared.Group.{Group}
use Rattle.preview_numbers.specs.Previews.{preview_file, preview_packet, PreviewNode}
use Rattle.sequences.specs.Lists.{ranked}
use Rattle.sequences.specs.Moved.{moved}
use Rattle.sequences.specs.Parts.{parts_of}
use Rattle.sequences.proofs.Lists.{length_run, run_part}
use Rattle.sequences.proofs.Parts.{length_parts, one_buffer, exactly_one_buffer}
use Rattle.preview_product.specs.Preview.{preview_letter, preview_letters, preview_piece, preview_reading, preview_piece_in, PreviewReaders}

-- the shifts of the nodes that are read, by rank and column
abbrev pub preview_shifts : List ℕ → ℕ → ℕ → ℕ
preview_shifts ids = ruled preview_shift (ranked ids)

pub preview_ordered : (g : Group) (ids : List ℕ) → PreviewReaders g ids → Ordered g.k (preview_shifts ids)
preview_ordered g ids r = falling_ordered preview_shift preview_refined g.k (ranked ids) r.nodes.falling

module _ {A : Type 0} (𝓐 : Adding A) (g : Group) (file : List A) where
  -- a reading is the parts of the file
  pub reading_parts : (ids : List ℕ) → preview_reading 𝓐 g file ids ≡ parts_of 𝓐 g.k g.l (preview_shifts ids) file
  unfolding preview_reading preview_piece preview_letter moved parts_of part
  reading_parts ids = refl

  pub length_preview_reading : (ids : List ℕ) → length (preview_reading 𝓐 g file ids) ≡ preview_file g
  unfolding preview_file
  length_preview_reading ids = ap length (reading_parts ids) ∙ length_parts 𝓐 g.k g.l (preview_shifts ids) file

  pub length_preview_letters : (i : ℕ) → length (preview_letters 𝓐 g file i) ≡ preview_packet g i
  unfolding preview_letters
  length_preview_letters i = length_run (preview_packet g i) (preview_letter 𝓐 g file i)

module _ {A : Type 0} (𝓛 : Letters A) (g : Group) (ids : List ℕ) (r : PreviewReaders g ids) where
  -- two files of k*L letters with one reading are one file
  pub preview_once :
      (file other : List A) → length file ≡ preview_file g → length other ≡ preview_file g
      → preview_reading 𝓛.adding g file ids ≡ preview_reading 𝓛.adding g other ids → file ≡ other
  unfolding preview_file
  preview_once file other long long' same =
      one_buffer 𝓛 g.k g.l (preview_shifts ids) (preview_ordered g ids r) file other long long'
      (sym (reading_parts 𝓛.adding g file ids) ∙ same ∙ reading_parts 𝓛.adding g other ids)

  -- every content of k*L letters is the reading of exactly one file
  pub exactly_one_preview :
      (buffer : List A) → length buffer ≡ preview_file g
      → (file : List A) × (length file ≡ preview_file g) × (preview_reading 𝓛.adding g file ids ≡ buffer)
      × ((other : List A) → length other ≡ preview_file g → preview_reading 𝓛.adding g other ids ≡ buffer → other ≡ file)
  unfolding preview_file
  exactly_one_preview buffer long =
      let one = exactly_one_buffer 𝓛 g.k g.l (preview_shifts ids) (preview_ordered g ids r) buffer long in (
        one.0,
        one.1,
        reading_parts 𝓛.adding g one.0 ids ∙ one.2,
        λ other l e. one.3 other l (sym (reading_parts 𝓛.adding g other ids) ∙ e),
      )

-- a node's shift of a rank is at most its widest
pub preview_rises : (g : Group) (i v : ℕ) → PreviewNode g i → 1 ≤ v → v ≤ g.k → preview_shift i v ≤ preview_shift i g.k
preview_rises g i v node lv hv =
    ⊎_elim (λ e. omega (arith, ap (preview_shift i) e)) (λ l. preview_refined.rising i v g.k node.low lv l) (eq-or-lt_of_le hv)

-- so a piece lies within its packet
pub inside_preview : (g : Group) (i v : ℕ) → PreviewNode g i → 1 ≤ v → v ≤ g.k → preview_shift i v + g.l ≤ preview_packet g i
unfolding preview_packet
inside_preview g i v node lv hv = omega (arith, preview_rises g i v node lv hv)

-- what a node hands back of its packet is the piece of the reading
pub preview_handed :
    {A : Type 0} (𝓐 : Adding A) (g : Group) (file : List A) (ids : List ℕ) (v : ℕ) → PreviewNode g (ranked ids v) → 1 ≤ v → v ≤ g.k
    → preview_piece_in g (ranked ids v) v (preview_letters 𝓐 g file (ranked ids v)) ≡ preview_piece 𝓐 g file ids v
unfolding preview_piece_in preview_letters preview_piece
preview_handed 𝓐 g file ids v node lv hv =
    run_part 𝓐.none (preview_packet g (ranked ids v)) (preview_shift (ranked ids v) v) g.l (preview_letter 𝓐 g file (ranked ids v))
    (inside_preview g (ranked ids v) v node lv hv)
