-- `pull_runs` meets its contract: after each turn one later column more is taken out.
use mathlib.Core.Path.{◌≡◌, subst, ◌∙◌}
use Prim.Native.Nat.{◌-◌}
use native.Mathlib.Omega.{arith}
use Rattle.column_runs.specs.Steps.Runs.{from_next, Grown}
use Rattle.column_runs.proofs.Pulling.{senders_entry, runs_none, runs_next}
use Rattle.column_runs.proofs.pull_runs.Goals as goal

pub loop-u-init : goal.loop-u-init
loop-u-init c =
    let s = c in
    runs_none s.args.senders.now.g s.args.senders.now.ids.now s.args.senders.now.rows.now s.args.v s.args.w (senders_entry s.args.senders.now s.args.v s.args.w (omega arith) (omega arith) (omega arith)) _ _

pub pull_run-requires : goal.pull_run-requires
pull_run-requires c =
    let s = c in
    record { entry = s.requires.entry; later = (omega arith, omega arith); buffer = (c.loop-u.invariant.same_length ∙ s.requires.buffer.0, s.requires.buffer.1) }

pub loop-u-preserved : goal.loop-u-preserved
loop-u-preserved c =
    let l = c.loop-u in
    let s = c in
    runs_next s.args.senders.now.g s.args.senders.now.ids.now s.args.senders.now.rows.now s.args.v s.args.w (senders_entry s.args.senders.now s.args.v s.args.w (omega arith) (omega arith) (omega arith)) _ l.u _ _ _ (omega arith) (omega arith) l.invariant c.pull_run.ensures

pub shape_of-buffer : goal.shape_of-buffer
shape_of-buffer c = c.loop-u.invariant.same_length

pub returns : goal.returns
returns c =
    let l = c.loop-u in
    let s = c in
    let done : l.u ≡ s.args.senders.now.g.d = omega arith in
    subst (λ m. Grown s.args.senders.now.g s.args.v s.args.w 0 s.args.end (from_next s.args.senders.now.g s.args.senders.now.ids.now s.args.buffer.now s.args.v s.args.w (m - s.args.v)) s.args.buffer.now l.buffer) done l.invariant
