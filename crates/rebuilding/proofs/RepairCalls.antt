-- What a refused repair and one that is not refused leave.
use Rattle.std.specs.Prelude.{Ok, Err}
use mathlib.Core.Path.{◌≡◌, subst, ◌∙◌}
use mathlib.Core.List.{List}
use Prim.Native.Nat.{ℕ, ◌≤◌}
use native.Mathlib.Omega.{arith}
use lib.Dec.{eqb}
use lib.ListN.{length}
use borrow.Author.Tests.{eqb-true}
use Rattle.letters.specs.Algebra.{xors}
use Rattle.system.specs.System.{sequence}
use Rattle.solving.specs.Solver.{SolvedCounted}
use Rattle.shifts.specs.Rule.{t}
use Rattle.group.specs.declared.Group.{Group}
use Rattle.group.specs.declared.Refusal.{Refusal}
use Rattle.group.specs.Answers.{Answer}
use Rattle.group.specs.Answers.{refusal_number, unless, first}
use Rattle.group.specs.Ranges.{node_refusal}
use Rattle.ids.specs.Ids.{ids_refusal}
use Rattle.lengths.specs.Lengths.{repair_letters, repair_buffer}
use Rattle.group.proofs.InRange.{node_of}
use Rattle.group.proofs.Refusals.{first_none, unless_none}
use Rattle.group.proofs.Called.{solves_refused, solves_fine}
use Rattle.matrix.specs.Repair.{equations}
use Rattle.matrix.specs.Counts.{repair_count}
use Rattle.rebuilding.specs.Calls.{apart_refusal, helpers_refusal, repair_refusal, Repaired}
use Rattle.rebuilding.specs.Steps.Checked.{Helpers}
use Rattle.sequences.specs.Steps.Rows.{RowsOf}
use Rattle.matrix.proofs.ChosenIds.{chosen_of}
use Rattle.matrix.proofs.ChosenRanks.{ranks}
use Rattle.sequences.proofs.Charted.{charted_parts, charted_additions}
use Rattle.matrix.proofs.Rebuilt.{same_buffer}

pub repair_refused :
    (g : Group) (lost : ℕ) (helpers before : List ℕ) (r : Refusal) → refusal_number r ≡ repair_refusal g lost helpers (length before)
    → Repaired g lost helpers before before (Err r)
repair_refused g lost helpers before r e =
    solves_refused r (repair_refusal g lost helpers (length before)) (equations xors g lost helpers) (repair_count g lost helpers) before e

pub repair_fine :
    (g : Group) (lost : ℕ) (helpers before after rows : List ℕ) (n count : ℕ) → Helpers g lost helpers → length before ≡ repair_buffer g lost
    → repair_refusal g lost helpers (length before) ≡ 0 → n ≡ repair_letters g lost → RowsOf t helpers rows → SolvedCounted g.d n rows before after count
    → Repaired g lost helpers before after (Ok count)
unfolding equations repair_count
repair_fine g lost helpers before after rows n count h long e size r solved =
    let s = subst (λ m. SolvedCounted g.d m rows before after count) size solved in
    let few : g.d ≤ 16 = omega arith in
    solves_fine (repair_refusal g lost helpers (length before)) count (equations xors g lost helpers) (repair_count g lost helpers) before after e
    (s.counted ∙ charted_additions t helpers rows r g.d (ranks g g.d helpers h.chosen few) g.d (omega arith) (omega arith) (repair_letters g lost) (sequence 0 after (repair_letters g lost)))
    s.solved.same_length
    (charted_parts t helpers rows r g.d (ranks g g.d helpers h.chosen few) g.d (omega arith) (omega arith) (repair_letters g lost) before after (long ∙ same_buffer g lost) s.solved.parts)

pub helpers_of : (g : Group) (lost : ℕ) (helpers : List ℕ) → helpers_refusal g lost helpers ≡ 0 → Helpers g lost helpers
unfolding helpers_refusal
helpers_of g lost helpers e =
    let w = first_none (node_refusal g lost) (first (ids_refusal g g.d helpers) (apart_refusal lost helpers)) e in
    let v = first_none (ids_refusal g g.d helpers) (apart_refusal lost helpers) w.1 in
    let n = node_of g lost w.0 in
    record { node = n; chosen = chosen_of g g.d helpers n.group v.0; fine = e }

-- a repair that is not refused has a lost node with its helpers and a buffer of d*L' letters
pub repair_of :
    (g : Group) (lost : ℕ) (helpers : List ℕ) (n : ℕ) → repair_refusal g lost helpers n ≡ 0 → Helpers g lost helpers × (n ≡ repair_buffer g lost)
unfolding repair_refusal
repair_of g lost helpers n e =
    let w = first_none (helpers_refusal g lost helpers) (unless (eqb n (repair_buffer g lost)) 5) e in
    (helpers_of g lost helpers w.0, eqb-true n (repair_buffer g lost) (unless_none (eqb n (repair_buffer g lost)) 5 (λ q. omega arith) w.1))
