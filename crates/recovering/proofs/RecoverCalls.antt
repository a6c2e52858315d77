-- What a refused recovery and one that is not refused leave.
use Rattle.std.specs.Prelude.{Ok, Err}
use mathlib.Core.Path.{◌≡◌}
use mathlib.Core.List.{List}
use Prim.Native.Nat.{ℕ}
use native.Mathlib.Omega.{arith}
use lib.Dec.{eqb}
use lib.ListN.{length}
use borrow.Author.Tests.{eqb-true, eq-eqb}
use Rattle.letters.specs.Algebra.{xors}
use Rattle.group.specs.declared.Group.{Group}
use Rattle.group.specs.declared.Refusal.{Refusal}
use Rattle.group.specs.Answers.{refusal_number, unless}
use Rattle.group.specs.Ranges.{group_refusal}
use Rattle.ids.specs.Ids.{ids_refusal}
use Rattle.lengths.specs.Lengths.{file_letters}
use Rattle.group.proofs.InRange.{in_range}
use Rattle.group.proofs.Refusals.{first_none, unless_none}
use Rattle.group.proofs.Called.{solves_refused, solves_fine}
use Rattle.matrix.specs.Pieces.{reading}
use Rattle.matrix.specs.Counts.{recovery_count}
use Rattle.recovering.specs.Calls.{readers_refusal, recover_refusal, Recovered}
use Rattle.recovering.specs.Steps.Checked.{Readers}
use Rattle.columns.specs.Steps.Columns.{Collected}
use Rattle.solved_columns.specs.Steps.Recovery.{Stage}
use Rattle.matrix.proofs.ChosenIds.{chosen_of}
use Rattle.solved_columns.proofs.Stages.{stage_end}

pub readers_of : (g : Group) (ids : List ℕ) → readers_refusal g ids ≡ 0 → Readers g ids
unfolding readers_refusal
readers_of g ids e =
    let w = first_none (group_refusal g) (ids_refusal g g.k ids) e in
    record { chosen = chosen_of g g.k ids (in_range g w.0) w.1; fine = e }

-- a recovery that is not refused has ids that may be read and a buffer of B*L letters, and the other way round
pub recover_of : (g : Group) (ids : List ℕ) (n : ℕ) → recover_refusal g ids n ≡ 0 → Readers g ids × (n ≡ file_letters g)
unfolding recover_refusal
recover_of g ids n e =
    let w = first_none (readers_refusal g ids) (unless (eqb n (file_letters g)) 5) e in
    (readers_of g ids w.0, eqb-true n (file_letters g) (unless_none (eqb n (file_letters g)) 5 (λ q. omega arith) w.1))

pub of_recover : (g : Group) (ids : List ℕ) (n : ℕ) → readers_refusal g ids ≡ 0 → n ≡ file_letters g → recover_refusal g ids n ≡ 0
unfolding recover_refusal
of_recover g ids n e long = simp (e, eq-eqb n (file_letters g) long)

pub recover_refused :
    (g : Group) (ids before : List ℕ) (r : Refusal) → refusal_number r ≡ recover_refusal g ids (length before)
    → Recovered g ids before before (Err r)
recover_refused g ids before r e =
    solves_refused r (recover_refusal g ids (length before)) (λ file. reading xors g file ids) (recovery_count g ids) before e

pub recover_fine :
    (g : Group) (ids before after : List ℕ) (count : ℕ) → Collected g ids before → recover_refusal g ids (length before) ≡ 0
    → Stage g ids 0 before after → count ≡ recovery_count g ids after → Recovered g ids before after (Ok count)
recover_fine g ids before after count collected e stage counted =
    solves_fine (recover_refusal g ids (length before)) count (λ file. reading xors g file ids) (recovery_count g ids) before after e counted stage.same_length
    (stage_end g ids before after collected stage)
