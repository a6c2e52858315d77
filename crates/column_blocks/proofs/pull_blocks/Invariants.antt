-- `pull_blocks` meets its contract: after each turn one later column more has its start.
use Prim.Native.Nat.{◌-◌}
use Rattle.column_blocks.proofs.Blocks.{ColumnsSeen}
use Rattle.column_blocks.proofs.pull_blocks.Given as goal

abbrev pub invariant-loop-before : goal.invariant-loop-before
invariant-loop-before l = ColumnsSeen l.senders.g l.senders.ids.now l.v l.w l.wide (l.before - l.v) l.starts
