-- `pull_run` meets its contract: the run reaches the entry before the place, or doesn't.
use mathlib.Core.Path.{refl}
use native.Mathlib.Omega.{arith}
use Rattle.column_runs.proofs.Pulling.{senders_entry, entries_fit, run_short, run_pulled}
use Rattle.column_runs.proofs.pull_run.Goals as goal

pub returns-then-end-moved : goal.returns-then-end-moved
returns-then-end-moved c =
    let s = c in
    run_short s.args.senders.now.g s.args.senders.now.ids.now s.args.senders.now.rows.now s.args.v s.args.w (senders_entry s.args.senders.now s.args.v s.args.w (omega arith) (omega arith) (omega arith)) s.args.buffer.now s.requires.buffer.0 s.args.u (omega arith) (omega arith) s.args.end _ _ _ (omega arith) c.moved_by-moved.ensures.0 refl refl c.if-end-moved.true

pub add_within-requires : goal.add_within-requires
add_within-requires c =
    let s = c in
    let r = entries_fit s.args.senders.now.g s.args.senders.now.ids.now s.args.senders.now.rows.now s.args.v s.args.w (senders_entry s.args.senders.now s.args.v s.args.w (omega arith) (omega arith) (omega arith)) s.args.buffer.now s.requires.buffer.0 s.args.u (omega arith) (omega arith) in
    (omega arith, omega arith)

pub returns : goal.returns
returns c =
    let s = c in
    run_pulled s.args.senders.now.g s.args.senders.now.ids.now s.args.senders.now.rows.now s.args.v s.args.w (senders_entry s.args.senders.now s.args.v s.args.w (omega arith) (omega arith) (omega arith)) s.args.buffer.now s.requires.buffer.0 s.args.u (omega arith) (omega arith) s.args.end _ _ _ (omega arith) c.moved_by-moved.ensures.0 c.free_start.ensures.0 c.free_start-from.ensures.0 _ (omega arith) c.add_within.ensures.letters
