-- A packet is the sum of its column's entries, as runs of the file that are each moved right by the node's shift.
use native.Mathlib.Omega.{arith}
use native.Mathlib.Nat.{add-zero}
use mathlib.Core.Path.{◌≡◌, sym, ap, subst, ◌∙◌}
use mathlib.Core.List.{List}
use Prim.Native.Nat.{ℕ, ◌≤◌, ◌+◌, ◌-◌}
use lib.ListN.{length}
use Rattle.letters.specs.Algebra.{xors}
use Rattle.letters.specs.Places.{letter}
use Rattle.sums.specs.Sums.{run_start}
use Rattle.shifts.specs.Rule.{t}
use Rattle.group.specs.declared.Group.{Group}
use Rattle.group.specs.Ranges.{NodeOf}
use Rattle.lengths.specs.Lengths.{file_letters, packet_length}
use Rattle.sequences.specs.Moved.{moved}
use Rattle.sequences.specs.Steps.Windows.{Summed}
use Rattle.sequences.specs.Steps.Rows.{RowOf}
use Rattle.sequences.specs.Steps.MovedRuns.{run_letter, MovedRuns, AllSeen, Holding}
use Rattle.sequences.proofs.MovedRuns.{moved_as}
use Rattle.sequences.proofs.Summing.{summed_run}
use Rattle.matrix.specs.Matrix.{entry_start, matrix, packet_letter, packet}
use Rattle.matrix.specs.Steps.Starts.{StartsOf}
use Rattle.matrix.proofs.EntryStarts.{start_fits}
use Rattle.matrix.proofs.Product.{shift_rises, corner, entry_letter}
use Rattle.laid_packets.specs.Steps.Rows.{RowsUsed}

module _ (g : Group) (node column : ℕ) (n : NodeOf g node) (lc : 1 ≤ column) (hc : column ≤ g.d) (file starts shifts : List ℕ) (rows : ℕ)
    (long : length file ≡ file_letters g) (s : StartsOf g column starts) (w : RowOf t node shifts) (used : RowsUsed g column rows) where
  -- the code counts rows from 0
  same_row : (v : ℕ) → 1 ≤ v → v - 1 + 1 ≡ v
  same_row v lo = omega arith

  start_at : (v : ℕ) → 1 ≤ v → v ≤ g.d → run_start starts v ≡ entry_start g v column
  start_at v lo hi = s.rows (v - 1) (omega arith) ∙ ap (λ m. entry_start g m column) (same_row v lo)

  shift_at : (v : ℕ) → 1 ≤ v → v ≤ g.d → run_start shifts v ≡ t node v
  shift_at v lo hi = w.shifts (v - 1) (omega arith) ∙ ap (t node) (same_row v lo)

  -- the entries are runs of the file
  pub entry_runs : MovedRuns starts shifts rows g.l (length file)
  entry_runs =
      record {
        inside =
            record {
              some = used.some;
              many = omega (arith, s.size, used.within);
              fits =
                  λ v lo hi.
                  omega (arith, used.within, start_at v lo (omega (arith, used.within)), start_fits g n.group v column lo lc (omega (arith, used.within)) hc (used.upper v hi));
            };
        few = omega (arith, used.within);
        led = omega (arith, w.size, used.within);
      }

  -- between the widest shift and L all of them have a letter
  pub entries_seen : (size : ℕ) → size ≡ packet_length g node column → size ≤ g.l + g.l → AllSeen shifts rows g.l 0 (size - g.l) g.l
  unfolding packet_length
  entries_seen size e room =
      record {
        order = omega arith;
        begun = λ v lo hi. omega (arith, used.within, shift_at v lo (omega (arith, used.within)), shift_rises node v g.d (omega arith) lo (omega (arith, used.within)));
        going = omega arith;
      }

  -- they are the rows of the column
  row_letter : (v p : ℕ) → 1 ≤ v → v ≤ rows → run_letter file starts g.l v p ≡ matrix xors g file v column p
  unfolding run_letter entry_start
  row_letter v p lo hi =
      ap (λ i. letter 0 file i g.l p) (start_at v lo (omega (arith, used.within))) ∙ entry_letter xors g file v column p (used.upper v hi)

  pub laid_packet :
      (before after : List ℕ) → length before ≡ packet_length g node column → Holding file starts shifts rows g.l 0 before after
      → after ≡ packet xors g file node column
  unfolding packet packet_letter
  laid_packet before after size h =
      summed_run (packet_length g node column) g.d 0 (t node) (λ v. matrix xors g file v column) (packet_letter xors g file node column) after (h.same_length ∙ size)
      (subst (λ m. Summed m 0 (t node) (λ v. matrix xors g file v column) after) all
      (moved_as rows (g.d - rows) 0 (run_start shifts) (t node) (run_letter file starts g.l) (λ v. matrix xors g file v column) after
      (λ v lo hi. shift_at v lo (omega (arith, used.within))) row_letter
      (λ v p past last. corner xors g file v column p (used.corner-row v past (omega (arith, used.within))) (used.corner_column v past (omega (arith, used.within))))
      h.summed))
      (λ p. ap (moved xors g.d (t node) (λ v. matrix xors g file v column)) (sym (add-zero p)))
    where
      all : rows + (g.d - rows) ≡ g.d
      all = omega (arith, used.within)
