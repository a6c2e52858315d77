-- A packet is the sum of the file's sequences, as runs of the file that are each moved right by the node's shift.
use mathlib.Core.Path.{◌≡◌, refl, sym, ap, subst, ◌∙◌}
use mathlib.Core.List.{List}
use Prim.Native.Nat.{ℕ, ◌+◌, ◌-◌, ◌*◌, ◌≤◌, ◌<◌}
use native.Mathlib.Nat.{add-zero, add-mul, mul-add, one-mul, mul-one, mul-le-mul_right}
use native.Mathlib.Omega.{arith}
use lib.ListN.{length, take, drop}
use Rattle.letters.specs.Algebra.{xors}
use Rattle.letters.specs.Places.{letter}
use Rattle.sums.specs.Sums.{run_start}
use Rattle.shifts.specs.Rule.{preview_shift}
use Rattle.system.specs.System.{sequence}
use Rattle.group.specs.declared.Group.{Group}
use Rattle.preview_numbers.specs.Previews.{preview_file, preview_packet, PreviewNode}
use Rattle.sequences.specs.Moved.{moved}
use Rattle.sequences.specs.Steps.Rows.{RowOf}
use Rattle.sequences.specs.Steps.Windows.{Seen, Summed}
use Rattle.sequences.specs.Steps.MovedRuns.{run_letter, MovedRuns, AllSeen, Holding}
use Rattle.sequences.proofs.MovedRuns.{moved_as}
use Rattle.sequences.proofs.Sequences.{place_index}
use Rattle.sequences.proofs.Summing.{part_adds, summed_more, summed_run}
use Rattle.preview_product.specs.Preview.{preview_letter, preview_letters}
use Rattle.preview_product.proofs.Theorems.{preview_rises}
use Rattle.preview_packets.specs.Steps.Starts.{SequenceStarts}

-- one sequence ends where the next starts, and is moved by the node's id more
pub next_start : (l u : ℕ) → u * l + l ≡ (u + 1) * l
next_start l u = sym (add-mul u 1 l ∙ ap (λ m. u * l + m) (one-mul l))

pub next_shift : (i u : ℕ) → preview_shift i (u + 1) + i ≡ preview_shift i (u + 1 + 1)
unfolding preview_shift
next_shift i u = ap (λ m. i * m + i) here ∙ sym (ap (λ m. i * m) there ∙ mul-add i u 1 ∙ ap (λ m. i * u + m) (mul-one i))
  where
    here : u + 1 - 1 ≡ u
    here = omega arith

    there : u + 1 + 1 - 1 ≡ u + 1
    there = omega arith

module _ (g : Group) (node : ℕ) (n : PreviewNode g node) (file : List ℕ) (long : length file ≡ preview_file g) where
  pub run_inside : (u : ℕ) → u < g.k → u * g.l + g.l ≤ length file
  unfolding preview_file
  run_inside u h = omega (arith, long, next_start g.l u, mul-le-mul_right g.l more)
    where
      more : u + 1 ≤ g.k
      more = omega arith

  -- a sequence of the file is the run from its start on
  sequence_run : (u start p : ℕ) → start ≡ u * g.l → letter 0 file start g.l p ≡ sequence 0 file g.l (u + 1) p
  unfolding sequence
  sequence_run u start p e = ap (λ m. letter 0 file m g.l p) (e ∙ ap (λ m. m * g.l) here)
    where
      here : u ≡ u + 1 - 1
      here = omega arith

  -- one sequence more is in the sum
  pub one_more :
      (u start shift : ℕ) (before after : List ℕ) → u < g.k → start ≡ u * g.l → shift ≡ preview_shift node (u + 1)
      → Summed u 0 (preview_shift node) (sequence 0 file g.l) before → Seen (take (start + g.l - start) (drop start file)) 0 shift before after
      → Summed (u + 1) 0 (preview_shift node) (sequence 0 file g.l) after
  one_more u start shift before after h starts shifted sums seen =
      summed_more u 0 (preview_shift node) (sequence 0 file g.l) before after sums
      (part_adds file (sequence 0 file g.l (u + 1)) start g.l (start + g.l) 0 shift (preview_shift node (u + 1)) before after
      (omega (arith, run_inside u h)) refl shifted (λ p. sequence_run u start p starts) seen)

  -- all of them are
  pub summed_packet :
      (buffer : List ℕ) → length buffer ≡ preview_packet g node → Summed g.k 0 (preview_shift node) (sequence 0 file g.l) buffer
      → buffer ≡ preview_letters xors g file node
  unfolding preview_letters preview_letter
  summed_packet buffer size sums =
      summed_run (preview_packet g node) g.k 0 (preview_shift node) (sequence 0 file g.l) (preview_letter xors g file node) buffer size sums
      (λ p. ap (moved xors g.k (preview_shift node) (sequence 0 file g.l)) (sym (add-zero p)))

  module _ (starts shifts : List ℕ) (s : SequenceStarts g starts) (w : RowOf preview_shift node shifts) where
    start_at : (u : ℕ) → 1 ≤ u → u ≤ g.k → run_start starts u ≡ (u - 1) * g.l
    start_at u lo hi = s.each (u - 1) (omega arith)

    shift_at : (u : ℕ) → 1 ≤ u → u ≤ g.k → run_start shifts u ≡ preview_shift node u
    shift_at u lo hi = w.shifts (u - 1) (omega arith) ∙ ap (preview_shift node) (place_index u lo)

    pub sequence_runs : MovedRuns starts shifts g.k g.l (length file)
    sequence_runs =
        record {
          inside =
              record {
                some = omega arith;
                many = omega (arith, s.size);
                fits = λ u lo hi. omega (arith, start_at u lo hi, run_inside (u - 1) (omega arith));
              };
          few = omega arith;
          led = omega (arith, w.size);
        }

    -- between the widest shift and L all of them have a letter
    pub sequences_seen : (size : ℕ) → size ≡ preview_packet g node → size ≤ g.l + g.l → AllSeen shifts g.k g.l 0 (size - g.l) g.l
    unfolding preview_packet
    sequences_seen size e room =
        record {
          order = omega arith;
          begun = λ u lo hi. omega (arith, shift_at u lo hi, preview_rises g node u n lo hi);
          going = omega arith;
        }

    run_letter_lem : (u p : ℕ) → 1 ≤ u → u ≤ g.k → run_letter file starts g.l u p ≡ sequence 0 file g.l u p
    unfolding run_letter sequence
    run_letter_lem u p lo hi = ap (λ m. letter 0 file m g.l p) (start_at u lo hi)

    pub laid_packet :
        (before after : List ℕ) → length before ≡ preview_packet g node → Holding file starts shifts g.k g.l 0 before after
        → after ≡ preview_letters xors g file node
    laid_packet before after size h =
        summed_packet after (h.same_length ∙ size)
        (subst (λ m. Summed m 0 (preview_shift node) (sequence 0 file g.l) after) (add-zero g.k)
        (moved_as g.k 0 0 (run_start shifts) (preview_shift node) (run_letter file starts g.l) (sequence 0 file g.l) after shift_at run_letter_lem
        (λ u p past last. absurd (omega arith)) h.summed))
