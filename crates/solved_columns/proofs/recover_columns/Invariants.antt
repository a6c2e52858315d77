-- `recover_columns` meets its contract: after each turn one column more is done.
use Rattle.solved_columns.specs.Steps.Recovery.{Stage}
use Rattle.solved_columns.proofs.recover_columns.Given as goal

abbrev pub invariant-loop-u : goal.invariant-loop-u
invariant-loop-u l = Stage l.senders.g l.senders.ids.now l.u l.initial.buffer l.buffer
