-- `pull_runs` meets its contract: after each turn one later column more is taken out.
use Prim.Native.Nat.{◌-◌}
use Rattle.column_runs.specs.Steps.Runs.{from_next, Grown}
use Rattle.column_runs.proofs.pull_runs.Given as goal

abbrev pub invariant-loop-u : goal.invariant-loop-u
invariant-loop-u l = Grown l.senders.g l.v l.w 0 l.end (from_next l.senders.g l.senders.ids.now l.initial.buffer l.v l.w (l.u - l.v)) l.initial.buffer l.buffer
