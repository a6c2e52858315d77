-- The night-desk examples P1 to P12 hold: the checker computes the packets, the pieces, the counts and the share; what is less than the share
-- or more is judged by the laws of shares.
use mathlib.Core.Path.{refl, sym}
use mathlib.Core.List.{List, [], ◌∷◌, ◌++◌}
use Prim.Native.Nat.{ℕ, zero, suc, ◌<◌}
use native.Mathlib.Omega.{arith}
use lib.ListN.{get_or, take}
use Rattle.shifts.specs.Rule.{t}
use Rattle.group.specs.declared.Refusal.TheVariants.{AfterEnd}
use Rattle.group.specs.Answers.{Outcome}
use Rattle.group.specs.Ranges.{NodeOf}
use Rattle.lengths.specs.Lengths.{node_letters}
use Rattle.sequences.specs.Lists.{joined}
use Rattle.matrix.specs.Matrix.{packets}
use Rattle.matrix.specs.Pieces.{reading}
use Rattle.matrix.specs.Counts.{recovery_count}
use Rattle.matrix.specs.Repair.{helping, equations}
use Rattle.records.specs.Records.{block_records, full_blocks, last_block}
use Rattle.layout.specs.Share.{share_of, ShareOf}
use Rattle.layout.specs.Judgment.{IsShare}
use Rattle.layout.proofs.Judgments.{cut_is_beginning, share_then_more, nothing_begins}
use Rattle.heads.specs.Heads.{heads}
use Rattle.share.specs.Calls.{head_for}
use Rattle.judging.specs.Judging.{WouldStand, Wrong, Judges}
use Rattle.kinds.specs.Kinds.{is_kind, row_for_kind}
use Rattle.kinds.proofs.RowLaws.{node_repairing}
use Rattle.heads.specs.Heads.{HeadNumbers}
use Rattle.heads.proofs.HeadLaws.{lawful, total_of}
use Rattle.examples.specs.Examples.{AllHold, one, stored, twelve}

-- P9's letters, which are bytes
abbrev letters : List ℕ
letters = 0x11 ∷ 0x50 ∷ []

below : (i : ℕ) → i < 2 → get_or letters i 0 < 256
below zero h = omega arith
below (suc zero) h = omega arith
below (suc (suc i)) h = absurd (omega arith)

first_node : NodeOf one 1
first_node =
    record {
      group =
          record {
            n_low = omega arith;
            n-high = omega arith;
            k_low = omega arith;
            k-high = omega arith;
            d_high = omega arith;
            l_low = omega arith;
            l_high = omega arith;
          };
      low = omega arith;
      high = omega arith;
    }

-- so its head's numbers are in the ranges of kind 1
allowed : HeadNumbers (head_for one 1 7)
unfolding is_kind row_for_kind
allowed = record { kind = refl; numbers = node_repairing one 1 first_node (omega arith); batch = omega arith }

-- its bytes are their share
is_share : ShareOf heads (head_for one 1 7) letters stored
unfolding share_of block_records full_blocks last_block node_letters t row_for_kind
is_share =
    record {
      allowed = allowed;
      count = sym (total_of (head_for one 1 7) allowed);
      bytes = record { below = below };
      is = refl;
    }

some_share : IsShare heads stored
some_share = (head_for one 1 7, letters, is_share)

-- P9 to P12, judged
judged : Judges stored (Outcome.fine (head_for one 1 7))
judged = Judges.complete (head_for one 1 7) letters is_share

cut : (any : ℕ) → any < 256 → Judges (take 80 stored) (Outcome.refused 7)
cut any h = Judges.unfinished (cut_is_beginning heads lawful stored 80 some_share (omega arith))

-- one byte too many stands after the end of the share
too_many : (any : ℕ) → Wrong (stored ++ (any ∷ [])) AfterEnd 81
unfolding row_for_kind
too_many any =
    record {
      offends =
          record {
            within = omega arith;
            before = ([], some_share);
            not_with = λ s. (share_then_more heads lawful stored (any ∷ s.0) some_share (omega arith)).0 s.1;
          };
      head = head_for one 1 7;
      rest = [];
      begins = (letters, is_share);
      place = WouldStand.after_end 81 (omega (arith, is_share.count));
    }

longer : (any : ℕ) → any < 256 → Judges (stored ++ (any ∷ [])) (Outcome.wrong 12 81)
longer any h = Judges.malformed AfterEnd 81 (too_many any)

nothing : (any : ℕ) → any < 256 → Judges [] (Outcome.refused 7)
nothing any h = Judges.unfinished (nothing_begins heads lawful)

-- P1 to P12
pub twelve_hold : AllHold twelve
unfolding AllHold twelve packets reading recovery_count joined helping equations share_of block_records full_blocks last_block row_for_kind
twelve_hold = (refl, (refl, (refl, ((refl, refl), ((refl, refl), ((refl, refl), ((refl, refl), ((refl, refl), ((refl, refl, judged), (cut, (longer, (nothing, tt))))))))))))
