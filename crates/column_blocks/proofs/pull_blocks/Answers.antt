-- `pull_blocks` meets its contract: after each turn one later column more has its start.
use mathlib.Core.Path.{◌≡◌, refl, ap, subst}
use Prim.Native.Nat.{◌+◌, ◌-◌}
use native.Mathlib.Omega.{arith}
use Rattle.letters.proofs.Laying.{laid_as}
use Rattle.sums.proofs.Sums.{inside_taken, none_before_taken, sum_at_taken}
use Rattle.column_blocks.proofs.Blocks.{ColumnsSeen, starts_none, starts_next, blocks_inside, blocks_pulled}
use Rattle.column_runs.proofs.Pulling.{senders_entry}
use Rattle.column_runs.proofs.Moving.{moves_rise}
use Rattle.column_blocks.proofs.pull_blocks.Goals as goal

pub loop-before-init : goal.loop-before-init
loop-before-init c =
    let s = c in
    starts_none _ _ _ _ _ _ refl (ap (λ n. n + s.args.wide) c.free_start.ensures.0)

pub moved_by-moved-requires : goal.moved_by-moved-requires
moved_by-moved-requires c =
    let s = c in
    (omega arith, omega arith, omega arith, omega arith)

pub overflow_sub-starts : goal.overflow_sub-starts
overflow_sub-starts c =
    let s = c in
    let l = c.loop-before in
    omega (arith, c.moved_by-moved.ensures.0, moves_rise s.args.senders.now.g s.args.senders.now.ids.now s.args.senders.now.chosen s.args.w s.requires.entry.0 (omega arith) (l.before + 1) s.args.senders.now.g.d (omega arith) (omega arith))

pub loop-before-preserved : goal.loop-before-preserved
loop-before-preserved c =
    let s = c in
    let l = c.loop-before in
    starts_next _ _ _ _ _ l.before _ _ (omega arith) (omega (arith, s.args.senders.now.chosen.group.d_high, s.args.senders.now.chosen.group.n-high)) (omega (arith, c.moved_by-moved.ensures.0, c.free_start-in-loop-before.ensures.0, moves_rise s.args.senders.now.g s.args.senders.now.ids.now s.args.senders.now.chosen s.args.w s.requires.entry.0 (omega arith) (l.before + 1) s.args.senders.now.g.d (omega arith) (omega arith))) l.invariant

pub lay_within-requires : goal.lay_within-requires
lay_within-requires c =
    let l = c.loop-before in
    let s = c in
    let last : l.before ≡ s.args.senders.now.g.d = omega arith in
    let b = blocks_inside s.args.senders.now.g s.args.senders.now.ids.now s.args.senders.now.rows.now s.args.v s.args.w (senders_entry s.args.senders.now s.args.v s.args.w (omega arith) (omega arith) (omega arith)) s.args.buffer.now s.requires.buffer.0 s.args.wide _ (1 + s.args.senders.now.g.d - s.args.v) l.starts s.requires.buffer.1 s.requires.buffer.2 (ap (λ n. n + s.args.wide) c.free_start.ensures.0) (omega arith)
    (subst (λ m. ColumnsSeen s.args.senders.now.g s.args.senders.now.ids.now s.args.v s.args.w s.args.wide (m - s.args.v) l.starts) last l.invariant) in
    (inside_taken l.starts _ _ _ b.0, none_before_taken l.starts _ _ b.0.many b.1)

pub shape_of-buffer : goal.shape_of-buffer
shape_of-buffer c = c.lay_within.ensures.same_length

pub returns : goal.returns
returns c =
    let l = c.loop-before in
    let s = c in
    let last : l.before ≡ s.args.senders.now.g.d = omega arith in
    let b = blocks_inside s.args.senders.now.g s.args.senders.now.ids.now s.args.senders.now.rows.now s.args.v s.args.w (senders_entry s.args.senders.now s.args.v s.args.w (omega arith) (omega arith) (omega arith)) s.args.buffer.now s.requires.buffer.0 s.args.wide _ (1 + s.args.senders.now.g.d - s.args.v) l.starts s.requires.buffer.1 s.requires.buffer.2 (ap (λ n. n + s.args.wide) c.free_start.ensures.0) (omega arith)
    (subst (λ m. ColumnsSeen s.args.senders.now.g s.args.senders.now.ids.now s.args.v s.args.w s.args.wide (m - s.args.v) l.starts) last l.invariant) in
    blocks_pulled s.args.senders.now.g s.args.senders.now.ids.now s.args.senders.now.rows.now s.args.v s.args.w (senders_entry s.args.senders.now s.args.v s.args.w (omega arith) (omega arith) (omega arith)) s.args.buffer.now s.requires.buffer.0 s.args.wide _ (1 + s.args.senders.now.g.d - s.args.v) l.starts s.requires.buffer.1 s.requires.buffer.2 (ap (λ n. n + s.args.wide) c.free_start.ensures.0) (omega arith)
    (subst (λ m. ColumnsSeen s.args.senders.now.g s.args.senders.now.ids.now s.args.v s.args.w s.args.wide (m - s.args.v) l.starts) last l.invariant) _
    (laid_as _ _ _ _ _ _ (λ q lo hi. sum_at_taken l.starts _ s.args.buffer.now _ b.0.many) c.lay_within.ensures)
