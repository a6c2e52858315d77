-- What a window sees of a column's entries is the node's packet, and packets stand one after another.
use native.Mathlib.Omega.{arith}
use mathlib.Core.Path.{◌≡◌, refl, sym, ap, ◌∙◌}
use mathlib.Core.List.{List}
use Prim.Native.Nat.{ℕ, ◌≤◌, ◌<◌, ◌+◌, ◌-◌}
use lib.ListN.{length, get_or, take, drop}
use Rattle.letters.specs.Algebra.{xors}
use Rattle.shifts.specs.Rule.{t}
use Rattle.group.specs.declared.Group.{Group}
use Rattle.group.specs.Ranges.{NodeOf}
use Rattle.lengths.specs.Lengths.{file_letters, packet_length, packet_start, node_letters}
use Rattle.lengths.proofs.Sizes.{packet_fits}
use Rattle.sequences.specs.Lists.{run}
use Rattle.sequences.specs.Steps.Rows.{RowOf}
use Rattle.sequences.proofs.Lists.{length_run, get_d_run}
use Rattle.matrix.specs.Matrix.{packet, packets as product}
use Rattle.matrix.specs.Steps.Starts.{StartsOf}
use Rattle.matrix.proofs.Product.{packets_at, packet_last}
use Rattle.laid_packets.specs.Steps.Rows.{RowsUsed}
use Rattle.sequences.proofs.FirstRuns.{first, first_sum}
use Rattle.laid_packets.proofs.Columns.{entry_runs, laid_packet}
use Rattle.matching.specs.Same.{SameTo, SameFor}
use Rattle.matching_windows.specs.Windows.{seen_letter}
use Rattle.matching_windows.proofs.Parts.{same_by, ends_in_part, whole_part}

module _ (g : Group) (node column : ℕ) (n : NodeOf g node) (lc : 1 ≤ column) (hc : column ≤ g.d) (file starts shifts : List ℕ) (rows : ℕ)
    (long : length file ≡ file_letters g) (s : StartsOf g column starts) (w : RowOf t node shifts) (used : RowsUsed g column rows) where
  -- all that the window sees, one after another
  seen : List ℕ
  seen = run (packet_length g node column) (λ p. seen_letter file starts shifts rows g.l 0 (p - 1))

  seen_at : (q : ℕ) → q < packet_length g node column → get_or seen q 0 ≡ seen_letter file starts shifts rows g.l 0 q
  unfolding seen
  seen_at q h =
      get_d_run (packet_length g node column) (λ p. seen_letter file starts shifts rows g.l 0 (p - 1)) 0 q h
      ∙ ap (seen_letter file starts shifts rows g.l 0) back
    where
      back : q + 1 - 1 ≡ q
      back = omega arith

  long_seen : length seen ≡ packet_length g node column
  unfolding seen
  long_seen = length_run (packet_length g node column) (λ p. seen_letter file starts shifts rows g.l 0 (p - 1))

  -- it is the packet
  seen_packet : seen ≡ packet xors g file node column
  unfolding seen_letter
  seen_packet =
      laid_packet g node column n lc hc file starts shifts rows long s w used seen seen long_seen
      (record { same_length = refl; summed = record { sums = λ q h. seen_at q (omega (arith, long_seen)) } })

  -- and so it is where the starts are cut off behind the last that is used
  cut_letter : (q : ℕ) → seen_letter file (first rows starts) shifts (length (first rows starts)) g.l 0 q ≡ seen_letter file starts shifts rows g.l 0 q
  unfolding seen_letter
  cut_letter q = first_sum starts shifts rows g.l (entry_runs g node column n lc hc file starts shifts rows long s w used).inside.many file (q + 1 + 0)

  pub packet_compared :
      (held : List ℕ) (m : ℕ) → length held ≡ packet_length g node column
      → SameFor held (seen_letter file (first rows starts) shifts (length (first rows starts)) g.l 0) m
      → SameFor held (λ q. get_or (packet xors g file node column) q 0) m
  packet_compared held m size c =
      same_by held (seen_letter file (first rows starts) shifts (length (first rows starts)) g.l 0) (λ q. get_or (packet xors g file node column) q 0) m
      (λ q h. cut_letter q ∙ sym (seen_at q (omega arith)) ∙ ap (λ xs. get_or xs q 0) seen_packet) c

-- packets one after another
module _ (g : Group) (node : ℕ) (n : NodeOf g node) (file held : List ℕ) (j start size m : ℕ) (last : j + 1 ≤ g.d) (long : length held ≡ node_letters g node)
    (starts : start ≡ packet_start g node (j + 1)) (sized : size ≡ packet_length g node (j + 1))
    (front : SameTo held (λ q. get_or (product xors g file node) q 0) start)
    (c : SameFor (take (start + size - start) (drop start held)) (λ q. get_or (packet xors g file node (j + 1)) q 0) m) where
  fits : start + size ≤ length held
  fits = omega (arith, packet_fits g node n (j + 1) (omega arith) last)

  is : (q : ℕ) → q < start + size - start → get_or (packet xors g file node (j + 1)) q 0 ≡ get_or (product xors g file node) (start + q) 0
  is q h =
      sym
      (ap (λ i. get_or (product xors g file node) (i + q) 0) starts
      ∙ packets_at xors g file node (j + 1) q (omega arith) last (omega arith))

  pub ends_in_packet : m < size → SameFor held (λ q. get_or (product xors g file node) q 0) (start + m)
  ends_in_packet h =
      ends_in_part held (λ q. get_or (product xors g file node) q 0) start (start + size) (omega arith) fits
      (λ q. get_or (packet xors g file node (j + 1)) q 0) m is front c (omega arith)

  pub packet_more : size ≤ m → SameTo held (λ q. get_or (product xors g file node) q 0) (start + size)
  packet_more h =
      whole_part held (λ q. get_or (product xors g file node) q 0) start (start + size) (omega arith) fits
      (λ q. get_or (packet xors g file node (j + 1)) q 0) m is front c (omega arith)

-- behind the last packet nothing is left
pub after_all : (g : Group) (node : ℕ) (held : List ℕ) (j end : ℕ) → j ≡ g.d → end ≡ packet_start g node (j + 1) → length held ≡ node_letters g node → length held ≤ end
after_all g node held j end done ends long = omega (arith, packet_last g node, ap (λ m. packet_start g node (m + 1)) done)
