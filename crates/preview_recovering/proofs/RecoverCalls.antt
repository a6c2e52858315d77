-- What a refused recovery of previews and one that is not refused leave: the solver leaves the one buffer whose parts are what it was handed, and these are its reading.
use Rattle.std.specs.Prelude.{Ok, Err}
use mathlib.Core.Path.{◌≡◌, ◌∙◌}
use mathlib.Core.List.{List}
use Prim.Native.Nat.{ℕ}
use native.Mathlib.Omega.{arith}
use lib.Dec.{eqb}
use lib.ListN.{length}
use borrow.Author.Tests.{eqb-true, eq-eqb}
use Rattle.letters.specs.Algebra.{xors}
use Rattle.shifts.specs.Rule.{preview_shift}
use Rattle.system.specs.System.{sequence}
use Rattle.solving.specs.Solver.{SolvedCounted}
use Rattle.group.specs.declared.Group.{Group}
use Rattle.group.specs.declared.Refusal.{Refusal}
use Rattle.group.specs.Answers.{Answer}
use Rattle.group.specs.Answers.{refusal_number, unless}
use Rattle.group.proofs.Refusals.{first_none, unless_none}
use Rattle.group.proofs.Called.{solves_refused, solves_fine}
use Rattle.ids.specs.Ids.{ids_refusal}
use Rattle.sequences.specs.Steps.Rows.{RowsOf}
use Rattle.sequences.proofs.Charted.{charted_parts, charted_additions}
use Rattle.sequences.proofs.ChosenIds.{chosen_ids}
use Rattle.preview_numbers.specs.Previews.{preview_group_refusal, preview_file}
use Rattle.preview_numbers.proofs.InRange.{preview_in_range}
use Rattle.preview_product.specs.Preview.{preview_reading, preview_count}
use Rattle.preview_product.proofs.Theorems.{reading_parts}
use Rattle.preview_product.proofs.Ranks.{preview_ranks}
use Rattle.preview_recovering.specs.Calls.{preview_readers_refusal, preview_recover_refusal, PreviewRecovered}
use Rattle.preview_recovering.specs.Steps.Checked.{CheckedReaders}

pub preview_readers_of : (g : Group) (ids : List ℕ) → preview_readers_refusal g ids ≡ 0 → CheckedReaders g ids
unfolding preview_readers_refusal
preview_readers_of g ids e =
    let w = first_none (preview_group_refusal g) (ids_refusal g g.k ids) e in
    record { readers = record { group = preview_in_range g w.0; nodes = chosen_ids g g.k ids w.1 }; fine = e }

-- a recovery that is not refused has ids that may be read and a buffer of k*L letters, and the other way round
pub preview_recover_of :
    (g : Group) (ids : List ℕ) (n : ℕ) → preview_recover_refusal g ids n ≡ 0 → CheckedReaders g ids × (n ≡ preview_file g)
unfolding preview_recover_refusal
preview_recover_of g ids n e =
    let w = first_none (preview_readers_refusal g ids) (unless (eqb n (preview_file g)) 5) e in
    (preview_readers_of g ids w.0, eqb-true n (preview_file g) (unless_none (eqb n (preview_file g)) 5 (λ q. omega arith) w.1))

pub of_preview_recover :
    (g : Group) (ids : List ℕ) (n : ℕ) → preview_readers_refusal g ids ≡ 0 → n ≡ preview_file g → preview_recover_refusal g ids n ≡ 0
unfolding preview_recover_refusal
of_preview_recover g ids n e long = simp (e, eq-eqb n (preview_file g) long)

pub preview_recover_refused :
    (g : Group) (ids before : List ℕ) (r : Refusal) → refusal_number r ≡ preview_recover_refusal g ids (length before)
    → PreviewRecovered g ids before before (Err r)
preview_recover_refused g ids before r e =
    solves_refused r (preview_recover_refusal g ids (length before)) (λ file. preview_reading xors g file ids) (preview_count g ids) before e

pub preview_recover_fine :
    (g : Group) (ids before after rows : List ℕ) (count : ℕ) → CheckedReaders g ids → length before ≡ preview_file g
    → preview_recover_refusal g ids (length before) ≡ 0 → RowsOf preview_shift ids rows → SolvedCounted g.k g.l rows before after count
    → PreviewRecovered g ids before after (Ok count)
unfolding preview_count preview_file
preview_recover_fine g ids before after rows count c long e r s =
    solves_fine (preview_recover_refusal g ids (length before)) count (λ file. preview_reading xors g file ids) (preview_count g ids) before after e
    (s.counted ∙ charted_additions preview_shift ids rows r g.k (preview_ranks g ids c.readers) g.k (omega arith) (omega arith) g.l (sequence 0 after g.l))
    s.solved.same_length
    (reading_parts xors g after ids
    ∙ charted_parts preview_shift ids rows r g.k (preview_ranks g ids c.readers) g.k (omega arith) (omega arith) g.l before after long s.solved.parts)
