-- The code of previews is linear in the file: the packets, the pieces and the readings of an XOR are the XOR of theirs.
use mathlib.Core.Path.{◌≡◌, sym, ap₂, ◌∙◌}
use mathlib.Core.List.{List}
use Prim.Native.Nat.{ℕ, ◌+◌, ◌-◌, ◌*◌}
use lib.ListN.{length}
use Rattle.letters.specs.Algebra.{Adding}
use Rattle.letters.specs.Runs.{xored}
use Rattle.shifts.specs.Rule.{preview_shift}
use Rattle.system.specs.System.{sequence}
use Rattle.group.specs.declared.Group.{Group}
use Rattle.preview_numbers.specs.Previews.{preview_packet}
use Rattle.sequences.specs.Lists.{ranked}
use Rattle.sequences.proofs.LinearRuns.{runs_linear, letter_of_xored, moved_plus, moved_same, parts_linear}
use Rattle.preview_product.specs.Preview.{preview_letter, preview_letters, preview_piece, preview_reading}
use Rattle.preview_product.proofs.Theorems.{preview_shifts, reading_parts}

module _ {A : Type 0} (𝓐 : Adding A) (g : Group) (file file' : List A) (same_length : length file ≡ length file') where
  letter_linear :
      (i p : ℕ) → preview_letter 𝓐 g (xored 𝓐 file file') i p ≡ 𝓐.plus (preview_letter 𝓐 g file i p) (preview_letter 𝓐 g file' i p)
  unfolding preview_letter sequence
  letter_linear i p =
      moved_same 𝓐 g.k (preview_shift i) (sequence 𝓐.none (xored 𝓐 file file') g.l)
      (λ u q. 𝓐.plus (sequence 𝓐.none file g.l u q) (sequence 𝓐.none file' g.l u q)) p
      (λ u q. letter_of_xored 𝓐 file file' ((u - 1) * g.l) g.l q same_length)
      ∙ moved_plus 𝓐 g.k (preview_shift i) (sequence 𝓐.none file g.l) (sequence 𝓐.none file' g.l) p

  -- the packet of the XOR of two files is the XOR of their packets
  pub previews_linear :
      (i : ℕ) → preview_letters 𝓐 g (xored 𝓐 file file') i ≡ xored 𝓐 (preview_letters 𝓐 g file i) (preview_letters 𝓐 g file' i)
  unfolding preview_letters
  previews_linear i =
      runs_linear 𝓐 (preview_packet g i) (preview_letter 𝓐 g (xored 𝓐 file file') i) (preview_letter 𝓐 g file i) (preview_letter 𝓐 g file' i) (letter_linear i)

  -- and so are the pieces of a reading, one by one and as the collector lays them out
  pub preview_piece_linear :
      (ids : List ℕ) (v : ℕ)
      → preview_piece 𝓐 g (xored 𝓐 file file') ids v ≡ xored 𝓐 (preview_piece 𝓐 g file ids v) (preview_piece 𝓐 g file' ids v)
  unfolding preview_piece
  preview_piece_linear ids v =
      runs_linear 𝓐 g.l (at (xored 𝓐 file file')) (at file) (at file') (λ p. letter_linear (ranked ids v) (p + preview_shift (ranked ids v) v))
    where
      at : List A → ℕ → A
      at f p = preview_letter 𝓐 g f (ranked ids v) (p + preview_shift (ranked ids v) v)

  pub preview_reading_linear :
      (ids : List ℕ)
      → preview_reading 𝓐 g (xored 𝓐 file file') ids ≡ xored 𝓐 (preview_reading 𝓐 g file ids) (preview_reading 𝓐 g file' ids)
  preview_reading_linear ids =
      reading_parts 𝓐 g (xored 𝓐 file file') ids
      ∙ parts_linear 𝓐 g.k g.l (preview_shifts ids) file file' same_length
      ∙ ap₂ (xored 𝓐) (sym (reading_parts 𝓐 g file ids)) (sym (reading_parts 𝓐 g file' ids))
