-- A helper's packets are runs of what it holds, each moved right by the lost node's shift: their sum through the window of its rank is its piece.
use native.Mathlib.Omega.{arith}
use native.Mathlib.Nat.{add-zero}
use mathlib.Core.Path.{◌≡◌, refl, ap, ap₂, subst, ◌∙◌}
use mathlib.Core.List.{List}
use Prim.Native.Nat.{ℕ, ◌≤◌, ◌+◌, ◌-◌}
use lib.ListN.{length}
use Rattle.letters.specs.Algebra.{xors}
use Rattle.letters.specs.Places.{letter}
use Rattle.sums.specs.Sums.{run_start}
use Rattle.shifts.specs.Rule.{t}
use Rattle.group.specs.declared.Group.{Group}
use Rattle.lengths.specs.Lengths.{packet_start, packet_length, node_letters, repair_letters}
use Rattle.lengths.proofs.Sizes.{packet_fits}
use Rattle.sequences.specs.Steps.Windows.{Summed}
use Rattle.sequences.specs.Steps.Rows.{RowOf}
use Rattle.sequences.specs.Steps.MovedRuns.{run_letter, MovedRuns, AllSeen, Holding}
use Rattle.sequences.proofs.MovedRuns.{moved_as}
use Rattle.sequences.proofs.Summing.{summed_run}
use Rattle.matrix.specs.Repair.{held_letter, helper_sum, helping}
use Rattle.matrix.proofs.Product.{shift_rises, packet_same}
use Rattle.helper_sums.specs.Steps.Checked.{Helper}
use Rattle.helper_sums.specs.Steps.Starts.{PacketStarts, Middle}

module _ (g : Group) (lost helper rank size : ℕ) (h : Helper g lost helper rank) (held starts leads : List ℕ) (sized : size ≡ packet_length g helper 1)
    (long : length held ≡ node_letters g helper) (s : PacketStarts g helper starts) (w : RowOf t lost leads) where
  -- the code counts packets from 0
  same_packet : (j : ℕ) → 1 ≤ j → j - 1 + 1 ≡ j
  same_packet j lo = omega arith

  start_at : (j : ℕ) → 1 ≤ j → j ≤ g.d → run_start starts j ≡ packet_start g helper j
  start_at j lo hi = s.packets (j - 1) (omega arith) ∙ ap (packet_start g helper) (same_packet j lo)

  lead_at : (j : ℕ) → 1 ≤ j → j ≤ g.d → run_start leads j ≡ t lost j
  lead_at j lo hi = w.shifts (j - 1) (omega (arith, h.node.group.d_high)) ∙ ap (t lost) (same_packet j lo)

  pub packet_runs : MovedRuns starts leads g.d size (length held)
  packet_runs =
      record {
        inside =
            record {
              some = omega (arith, h.node.group);
              many = omega (arith, s.size, h.node.group);
              fits = λ j lo hi. omega (arith, start_at j lo hi, packet_fits g helper h.other j lo hi, packet_same g helper 1 j);
            };
        few = omega (arith, h.node.group);
        led = omega (arith, w.size, h.node.group);
      }

  pub packets_seen :
      (skip front back room : ℕ) → skip ≡ t helper rank → Middle g lost helper rank size front back room → AllSeen leads g.d size skip front back
  packets_seen skip front back room e m =
      record {
        order = m.order;
        begun = λ j lo hi. omega (arith, lead_at j lo hi, shift_rises lost j g.d h.node.low lo hi, m.begun);
        going = omega (arith, m.going);
      }

  held_letter_lem : (j p : ℕ) → 1 ≤ j → j ≤ g.d → run_letter held starts size j p ≡ held_letter xors g helper held j p
  unfolding run_letter held_letter
  held_letter_lem j p lo hi = ap₂ (λ a m. letter 0 held a m p) (start_at j lo hi) (sized ∙ packet_same g helper 1 j)

  pub laid_piece :
      (skip : ℕ) (before after : List ℕ) → skip ≡ t helper rank → length before ≡ repair_letters g lost → Holding held starts leads g.d size skip before after
      → after ≡ helping xors g lost helper rank held
  unfolding helping helper_sum
  laid_piece skip before after e size' x =
      summed_run (repair_letters g lost) g.d (t helper rank) (t lost) (held_letter xors g helper held) (λ p. helper_sum xors g lost helper held (p + t helper rank)) after
      (x.same_length ∙ size')
      (subst (λ m. Summed m (t helper rank) (t lost) (held_letter xors g helper held) after) (add-zero g.d)
      (moved_as g.d 0 (t helper rank) (run_start leads) (t lost) (run_letter held starts size) (held_letter xors g helper held) after lead_at held_letter_lem
      (λ j p past last. absurd (omega arith)) (subst (λ m. Summed g.d m (run_start leads) (run_letter held starts size) after) e x.summed)))
      (λ p. refl)
