-- `moved::Moved::add_each` meets its contract: after every turn one run more is in the sum.
use Rattle.sums.specs.Sums.{run_start}
use Rattle.sequences.specs.Steps.Windows.{Summed}
use Rattle.sequences.specs.Steps.MovedRuns.{run_letter}
use Rattle.sequences.proofs.moved.Moved.add_each.Given as goal

abbrev pub invariant-loop-u : goal.invariant-loop-u
invariant-loop-u l = Summed l.u l.skip (run_start l.self.leads.now) (run_letter l.self.from.now l.self.starts.now l.self.size) l.into
