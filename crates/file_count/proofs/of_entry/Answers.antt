-- `of_entry` meets its contract: the entry is a run of the file, whose letters are counted once for both sums.
use mathlib.Core.Path.{refl, ap, ap₂, ◌∙◌}
use Prim.Native.Nat.{◌+◌, ◌≤◌}
use native.Mathlib.Omega.{arith}
use lib.ListN.{length}
use Rattle.worth.proofs.Worth.{worth_of_slice}
use Rattle.counting.specs.Steps.Taken.{others_terms}
use Rattle.file_count.proofs.ColumnTerms.{recovery_of, others_as_solving}
use Rattle.file_count.proofs.of_entry.Goals as goal

pub of_takings-requires : goal.of_takings-requires
of_takings-requires c =
    let s = c in record { entry = (omega arith, omega arith, omega arith, omega arith); run = (s.requires.0, refl, c.free_start-start.ensures.0) }

pub invariant_of-run : goal.invariant_of-run
invariant_of-run c =
    let fits : c.free_start-start.result + c.args.senders.now.g.l ≤ length c.args.file.now = omega (arith, c.requires.0, c.free_start-start.ensures.1) in
    record { counted = record { fits = fits; all = c.count.ensures ∙ worth_of_slice _ c.free_start-start.result c.args.senders.now.g.l _ refl fits } }

pub returns : goal.returns
returns c =
    let s = c in
    let a = s.args in record {
      terms = ap₂ ◌+◌
          (c.of_others-solving.ensures.0
          ∙ ap (λ m. others_terms a.file.now c.free_start-start.result a.senders.now.g.l a.senders.now.rows.now m a.v) s.requires.3
          ∙ others_as_solving a.senders.now.g a.senders.now.ids.now a.senders.now.rows.now a.file.now (recovery_of a.senders.now a.file.now s.requires.0) a.v a.u _ (omega arith) (omega arith) (omega arith) c.free_start-start.ensures.0)
          c.of_takings.ensures.0;
      few = omega (arith, c.of_others-solving.ensures.1, c.of_takings.ensures.1);
    }
