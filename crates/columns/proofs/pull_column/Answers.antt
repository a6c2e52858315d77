-- `pull_column` meets its contract: after each turn one entry more is done, and past column k there is nothing to do.
use mathlib.Core.Path.{◌≡◌, subst, ◌∙◌}
use Prim.Native.Nat.{min}
use native.Mathlib.Omega.{arith}
use Rattle.columns.specs.Steps.Columns.{Pulled}
use Rattle.columns.proofs.Entries.{pull_none, pull_next, pull_corner}
use Rattle.columns.proofs.pull_column.Goals as goal

pub returns-then-senders-v : goal.returns-then-senders-v
returns-then-senders-v c = pull_corner _ _ _ _ _ c.if-senders-v.true

pub loop-w-init : goal.loop-w-init
loop-w-init c = pull_none _ _ _ _

pub pull_entry-requires : goal.pull_entry-requires
pull_entry-requires c =
    let s = c in
    let l = c.loop-w in
    record { entry = (omega arith, omega arith, omega arith); buffer = l.invariant.same_length ∙ s.requires.0 }

pub loop-w-preserved : goal.loop-w-preserved
loop-w-preserved c =
    let l = c.loop-w in
    pull_next _ _ _ _ l.w _ _ (omega arith) (omega arith) (omega arith) l.invariant c.pull_entry.ensures

pub shape_of-buffer : goal.shape_of-buffer
shape_of-buffer c = c.loop-w.invariant.same_length

pub returns : goal.returns
returns c =
    let l = c.loop-w in
    let s = c in
    let done : l.w ≡ min s.args.v s.args.senders.now.g.k = omega arith in
    subst (λ m. Pulled s.args.senders.now.g s.args.senders.now.ids.now s.args.v m s.args.buffer.now l.buffer) done l.invariant
