-- `recover_columns` meets its contract: after each turn one column more is done.
use mathlib.Core.Path.{◌≡◌, subst, ◌∙◌}
use Rattle.solved_columns.specs.Steps.Recovery.{Stage}
use Rattle.solved_columns.proofs.Stages.{stage_start, stage_next}
use native.Mathlib.Omega.{arith}
use Rattle.solved_columns.proofs.recover_columns.Goals as goal

pub loop-u-init : goal.loop-u-init
loop-u-init c = stage_start _ _ _

pub recover_column-requires : goal.recover_column-requires
recover_column-requires c =
    let s = c in
    let l = c.loop-u in
    (l.invariant.same_length ∙ s.requires, omega arith, omega arith)

pub loop-u-preserved : goal.loop-u-preserved
loop-u-preserved c =
    let l = c.loop-u in
    stage_next _ _ l.u (omega arith) (omega arith) _ _ _ l.invariant c.recover_column.ensures

pub shape_of-buffer : goal.shape_of-buffer
shape_of-buffer c = c.loop-u.invariant.same_length

pub returns : goal.returns
returns c =
    let l = c.loop-u in
    let s = c in
    let done : l.u ≡ 0 = omega arith in
    subst (λ m. Stage s.args.senders.now.g s.args.senders.now.ids.now m s.args.buffer.now l.buffer) done l.invariant
