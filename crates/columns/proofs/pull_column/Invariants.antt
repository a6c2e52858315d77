-- `pull_column` meets its contract: after each turn one entry more is done, and past column k there is nothing to do.
use Rattle.columns.specs.Steps.Columns.{Pulled}
use Rattle.columns.proofs.pull_column.Given as goal

abbrev pub invariant-loop-w : goal.invariant-loop-w
invariant-loop-w l = Pulled l.senders.g l.senders.ids.now l.v l.w l.initial.buffer l.buffer
