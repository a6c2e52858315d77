-- `first_wrong_behind` meets its contract: every byte passed stands, looked at or stepped over, and the byte at which the loops are
-- left by their label doesn't, since the offset in its record tells its test.
use mathlib.Core.Path.{◌≡◌, sym, ◌∙◌}
use Prim.Native.Nat.{ℕ, ◌+◌, ◌≤◌}
use native.Mathlib.Omega.{arith}
use Rattle.records.specs.Records.{block_size}
use Rattle.kinds.specs.Kinds.{head_size}
use Rattle.kinds.proofs.RowLaws.{size_small}
use Rattle.heads.specs.declared.Head.{Head}
use Rattle.heads.proofs.HeadLaws.{total_small}
use Rattle.searching.proofs.Walk.{size_at_most, offset_within, enter, stride, offset_small, tested, further, beyond}
use Rattle.searching.proofs.first_wrong_behind.Goals as goal

-- a head is no longer than a block
few : (h : Head) (front : ℕ) → front ≡ head_size h.kind → front ≤ block_size
few h front e = omega (arith, size_small h.kind)

pub records-init : goal.records-init
records-init c = (omega arith, λ p h. absurd (omega arith))

pub overflow_add-base : goal.overflow_add-base
overflow_add-base c = omega arith

pub overflow_add-base-in-records : goal.overflow_add-base-in-records
overflow_add-base-in-records c = omega arith

pub overflow_sub-left : goal.overflow_sub-left
overflow_sub-left c =
    let l = c in
    offset_within _ (l.args.base + l.records.at) _ _ _ c.record_at-nth.ensures c.offset_at-offset.ensures c.record_size.ensures

pub overflow_add-start : goal.overflow_add-start
overflow_add-start c =
    let s = c in
    omega (arith, size_at_most s.args.front c.record_at-nth.result (few s.args.head s.args.front s.requires.1), c.record_size.ensures)

pub loop-at-init : goal.loop-at-init
loop-at-init c =
    let s = c in
    (enter _ _ _ _ _ _ _ _ c.records-test.true c.record_at-nth.ensures c.offset_at-offset.ensures (omega (arith, c.record_size.ensures)) c.lesser-end.ensures, s.records.invariant.1)

pub overflow_sub-at : goal.overflow_sub-at
overflow_sub-at c = omega arith

pub overflow_add-offset : goal.overflow_add-offset
overflow_add-offset c =
    let s = c in
    omega (arith, offset_small _ _ _ _ _ _ _ _ (few s.args.head s.args.front s.requires.1) c.loop-at.invariant.0 c.loop-at-test.true)

pub bounds-bytes-at : goal.bounds-bytes-at
bounds-bytes-at c = omega arith

pub stands_in-requires : goal.stands_in-requires
stands_in-requires c =
    let s = c in
    (omega (arith, total_small s.args.head), offset_small _ _ _ _ _ _ _ _ (few s.args.head s.args.front s.requires.1) c.loop-at.invariant.0 c.loop-at-test.true)

pub overflow_sub-at-in-loop-at : goal.overflow_sub-at-in-loop-at
overflow_sub-at-in-loop-at c = omega arith

pub overflow_add-offset-in-loop-at : goal.overflow_add-offset-in-loop-at
overflow_add-offset-in-loop-at c =
    let s = c in
    omega (arith, offset_small _ _ _ _ _ _ _ _ (few s.args.head s.args.front s.requires.1) c.loop-at.invariant.0 c.loop-at-test.true)

pub next_tested-at-requires : goal.next_tested-at-requires
next_tested-at-requires c =
    let s = c in
    let l = c.loop-at.invariant.0 in
    let inside = c.loop-at-test.true in
    (omega (arith, total_small s.args.head), offset_small _ _ _ _ _ _ _ _ (few s.args.head s.args.front s.requires.1) l inside, inside, l.there)

pub loop-at-smaller : goal.loop-at-smaller
loop-at-smaller c = omega (arith, c.next_tested-at.ensures.on, c.next_tested-at.ensures.within)

pub loop-at-preserved : goal.loop-at-preserved
loop-at-preserved c =
    let l = c in
    let s = l in
    let k = c.next_tested-at.ensures in (
      stride _ _ _ _ _ _ _ _ _ l.loop-at.invariant.0 (omega (arith, k.on)) k.within,
      further _ _ _ _ _ s.requires.1 s.requires.2 _ _ _ _ _ l.loop-at.invariant.0 _ c.loop-at-test.true l.loop-at.invariant.1
          (sym c.stands_in.ensures ∙ c.if-not-stands_in.false) k,
    )

pub past_full_blocks-at-requires : goal.past_full_blocks-at-requires
past_full_blocks-at-requires c = omega (arith, c.loop-at.invariant.0)

pub records-smaller : goal.records-smaller
records-smaller c = omega (arith, c.loop-at.invariant.0, c.past_full_blocks-at.ensures.on)

pub records-preserved : goal.records-preserved
records-preserved c =
    let l = c in
    let s = l in
    let f = c.past_full_blocks-at.ensures in
    (f.there, beyond _ _ _ _ _ s.requires.1 s.requires.2 _ _ _ _ _ l.loop-at.invariant.0 _ c.loop-at-test.false l.loop-at.invariant.1 f)

pub returns-after-records : goal.returns-after-records
returns-after-records c = record { within = c.records.invariant.0; before = c.records.invariant.1; wrong = λ h. absurd (omega arith) }

pub returns-then-not-stands_in : goal.returns-then-not-stands_in
returns-then-not-stands_in c =
    let l = c in
    let s = l in
    let w = l.loop-at.invariant.0 in
    record {
      within = omega arith;
      before = l.loop-at.invariant.1;
      wrong =
          λ h.
          tested _ _ _ _ s.args.bytes.now s.requires.1 s.requires.2 _ _ _ _ _ w _ w.from c.loop-at-test.true
          ∙ sym c.stands_in.ensures
          ∙ c.if-not-stands_in.true;
    }
