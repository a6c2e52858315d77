-- The product is linear in the file: the packets, the pieces and the helpers' pieces of an XOR are the XOR of theirs.
use mathlib.Core.Path.{◌≡◌, sym, ◌∙◌}
use mathlib.Core.Bool.{Bool, true, false, cond}
use mathlib.Core.List.{List}
use Prim.Native.Nat.{ℕ, ◌+◌, ◌-◌, ◌*◌, min, max}
use lib.Dec.{leb}
use lib.ListN.{length}
use Rattle.letters.specs.Algebra.{Adding}
use Rattle.letters.specs.Places.{letter}
use Rattle.letters.specs.Runs.{xored}
use Rattle.shifts.specs.Rule.{t}
use Rattle.system.specs.System.{sequence}
use Rattle.group.specs.declared.Group.{Group}
use Rattle.lengths.specs.Lengths.{packet_length, packet_start, repair_letters}
use Rattle.sequences.specs.Lists.{joined, ranked}
use Rattle.sequences.proofs.Lists.{length_run, joined_same}
use Rattle.sequences.proofs.LinearRuns.{runs_linear, same_lengths, joined_xored, letter_of_xored, moved_plus, moved_same}
use Rattle.matrix.specs.Matrix.{entry_number, as_file, matrix, packet_letter, packet, packets}
use Rattle.matrix.specs.Pieces.{piece_letter, piece, reading}
use Rattle.matrix.specs.Repair.{held_letter, helper_sum, helping}
use Rattle.matrix.proofs.Product.{length_packet}

module _ {A : Type 0} (𝓐 : Adding A) where
  module _ (g : Group) (file file' : List A) (same_length : length file ≡ length file') where
    matrix_plus :
        (v u p : ℕ) → matrix 𝓐 g (xored 𝓐 file file') v u p ≡ 𝓐.plus (matrix 𝓐 g file v u p) (matrix 𝓐 g file' v u p)
    unfolding matrix sequence
    matrix_plus v u p = go (leb (min v u) g.k)
      where
        number : ℕ
        number = (entry_number g.k (min v u) (max v u) - 1) * g.l

        go :
            (b : Bool)
            → cond b (letter 𝓐.none (xored 𝓐 file file') number g.l p) 𝓐.none
            ≡ 𝓐.plus (cond b (letter 𝓐.none file number g.l p) 𝓐.none) (cond b (letter 𝓐.none file' number g.l p) 𝓐.none)
        go true = letter_of_xored 𝓐 file file' number g.l p same_length
        go false = sym (𝓐.plus_none 𝓐.none)

    packet_plus :
        (i j p : ℕ)
        → packet_letter 𝓐 g (xored 𝓐 file file') i j p ≡ 𝓐.plus (packet_letter 𝓐 g file i j p) (packet_letter 𝓐 g file' i j p)
    unfolding packet_letter
    packet_plus i j p =
        moved_same 𝓐 g.d (t i) (λ u. matrix 𝓐 g (xored 𝓐 file file') u j) (λ u q. 𝓐.plus (matrix 𝓐 g file u j q) (matrix 𝓐 g file' u j q)) p
        (λ u q. matrix_plus u j q)
        ∙ moved_plus 𝓐 g.d (t i) (λ u. matrix 𝓐 g file u j) (λ u. matrix 𝓐 g file' u j) p

    packet_linear : (i j : ℕ) → packet 𝓐 g (xored 𝓐 file file') i j ≡ xored 𝓐 (packet 𝓐 g file i j) (packet 𝓐 g file' i j)
    unfolding packet
    packet_linear i j =
        runs_linear 𝓐 (packet_length g i j) (packet_letter 𝓐 g (xored 𝓐 file file') i j) (packet_letter 𝓐 g file i j) (packet_letter 𝓐 g file' i j) (packet_plus i j)

    -- the packets of the XOR of two files are the XOR of their packets
    pub packets_linear : (i : ℕ) → packets 𝓐 g (xored 𝓐 file file') i ≡ xored 𝓐 (packets 𝓐 g file i) (packets 𝓐 g file' i)
    unfolding packets
    packets_linear i =
        joined_same g.d (packet 𝓐 g (xored 𝓐 file file') i) (λ j. xored 𝓐 (packet 𝓐 g file i j) (packet 𝓐 g file' i j)) (λ j lo hi. packet_linear i j)
        ∙ joined_xored 𝓐 g.d (packet 𝓐 g file i) (packet 𝓐 g file' i) (λ j. length_packet 𝓐 g file i j ∙ sym (length_packet 𝓐 g file' i j))

    -- and so are the pieces of a reading, one by one and as the collector lays them out
    pub piece_linear :
        (ids : List ℕ) (v u : ℕ) → piece 𝓐 g (xored 𝓐 file file') ids v u ≡ xored 𝓐 (piece 𝓐 g file ids v u) (piece 𝓐 g file' ids v u)
    unfolding piece piece_letter
    piece_linear ids v u =
        runs_linear 𝓐 g.l (piece_letter 𝓐 g (xored 𝓐 file file') ids v u) (piece_letter 𝓐 g file ids v u) (piece_letter 𝓐 g file' ids v u)
        (λ p. packet_plus (ranked ids v) u (p + t (ranked ids v) v))

    pub reading_linear :
        (ids : List ℕ) → reading 𝓐 g (xored 𝓐 file file') ids ≡ xored 𝓐 (reading 𝓐 g file ids) (reading 𝓐 g file' ids)
    unfolding reading as_file piece
    reading_linear ids =
        joined_same g.d (column (xored 𝓐 file file')) (λ u. xored 𝓐 (column file u) (column file' u)) (λ u lo hi. column_linear u)
        ∙ joined_xored 𝓐 g.d (column file) (column file')
        (λ u. same_lengths 𝓐 (min u g.k) (λ v. piece 𝓐 g file ids v u) (λ v. piece 𝓐 g file' ids v u) (λ v. long file v u ∙ sym (long file' v u)))
      where
        long : (f : List A) (v u : ℕ) → length (piece 𝓐 g f ids v u) ≡ g.l
        long f v u = length_run g.l (piece_letter 𝓐 g f ids v u)

        column : List A → ℕ → List A
        column f u = joined (min u g.k) (λ v. piece 𝓐 g f ids v u)

        column_linear : (u : ℕ) → column (xored 𝓐 file file') u ≡ xored 𝓐 (column file u) (column file' u)
        column_linear u =
            joined_same (min u g.k) (λ v. piece 𝓐 g (xored 𝓐 file file') ids v u)
            (λ v. xored 𝓐 (piece 𝓐 g file ids v u) (piece 𝓐 g file' ids v u)) (λ v lo hi. piece_linear ids v u)
            ∙ joined_xored 𝓐 (min u g.k) (λ v. piece 𝓐 g file ids v u) (λ v. piece 𝓐 g file' ids v u)
            (λ v. long file v u ∙ sym (long file' v u))

  -- and the pieces of helpers
  pub helping_linear :
      (g : Group) (lost helper u : ℕ) (held held' : List A) → length held ≡ length held'
      → helping 𝓐 g lost helper u (xored 𝓐 held held') ≡ xored 𝓐 (helping 𝓐 g lost helper u held) (helping 𝓐 g lost helper u held')
  unfolding helping helper_sum held_letter
  helping_linear g lost helper u held held' e =
      runs_linear 𝓐 (repair_letters g lost) (λ p. helper_sum 𝓐 g lost helper (xored 𝓐 held held') (p + t helper u))
      (λ p. helper_sum 𝓐 g lost helper held (p + t helper u)) (λ p. helper_sum 𝓐 g lost helper held' (p + t helper u))
      (λ p.
      moved_same 𝓐 g.d (t lost) (held_letter 𝓐 g helper (xored 𝓐 held held'))
      (λ j q. 𝓐.plus (held_letter 𝓐 g helper held j q) (held_letter 𝓐 g helper held' j q)) (p + t helper u)
      (λ j q. letter_of_xored 𝓐 held held' (packet_start g helper j) (packet_length g helper j) q e)
      ∙ moved_plus 𝓐 g.d (t lost) (held_letter 𝓐 g helper held) (held_letter 𝓐 g helper held') (p + t helper u))
