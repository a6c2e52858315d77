-- `pull_entry` meets its contract: either all of the entry is done run by run, or its two parts are done one after the other.
use mathlib.Core.Path.{◌∙◌}
use Prim.Native.Nat.{◌≤◌}
use native.Mathlib.Omega.{arith}
use Rattle.column_runs.proofs.Pulling.{senders_entry, entry_pulled}
use Rattle.columns.proofs.pull_entry.Goals.{then-g-wide, else-g-wide}
use Rattle.columns.proofs.pull_entry.Goals as goal

pub pull_runs-requires-else-g-v : goal.pull_runs-requires-else-g-v
pull_runs-requires-else-g-v c =
    let s = c in
    let reach : c.moved_by-wide.result ≤ s.args.senders.now.g.l = elim c.if-g-wide.branch [ then-g-wide w ↦ omega arith | else-g-wide w ↦ omega arith ] in
    record { entry = s.requires.entry; buffer = (s.requires.buffer, reach) }

pub pull_blocks-requires : goal.pull_blocks-requires
pull_blocks-requires c =
    let s = c in
    let reach : c.moved_by-wide.result ≤ s.args.senders.now.g.l = elim c.if-g-wide.branch [ then-g-wide w ↦ omega arith | else-g-wide w ↦ omega arith ] in
    record { entry = s.requires.entry; buffer = (c.pull_runs-else-g-v.ensures.same_length ∙ s.requires.buffer, c.moved_by-wide.ensures.0, reach) }

pub returns-else-g-v : goal.returns-else-g-v
returns-else-g-v c =
    let s = c in
    let reach : c.moved_by-wide.result ≤ s.args.senders.now.g.l = elim c.if-g-wide.branch [ then-g-wide w ↦ omega arith | else-g-wide w ↦ omega arith ] in
    entry_pulled s.args.senders.now.g s.args.senders.now.ids.now s.args.senders.now.rows.now s.args.v s.args.w (senders_entry s.args.senders.now s.args.v s.args.w (omega arith) (omega arith) (omega arith)) _ _ _ _ reach c.pull_runs-else-g-v.ensures c.pull_blocks.ensures
