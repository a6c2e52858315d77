-- The sequence is counted as a slice of its own.
use Rattle.std.proofs.Common.{refl, ◌∙◌}
use Rattle.worth.proofs.Worth.{worth_of_slice}
use Rattle.counting.proofs.of_sequence.Goals as goal

pub invariant_of-run : goal.invariant_of-run
invariant_of-run c =
    let fits = c.requires.2 in
    record { counted = record { fits = fits; all = c.count-whole.ensures ∙ worth_of_slice _ c.args.start c.args.n _ refl fits } }
