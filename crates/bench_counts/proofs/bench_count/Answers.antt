-- The run is counted as a slice of its own.
use Rattle.std.proofs.Common.{refl, ◌∙◌}
use Rattle.worth.proofs.Worth.{worth_of_slice}
use Rattle.bench_counts.proofs.bench_count.Goals as goal

pub returns : goal.returns
returns c = c.count.ensures ∙ worth_of_slice _ c.args.start c.args.count _ refl c.requires
