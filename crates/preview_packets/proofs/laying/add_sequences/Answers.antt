-- `laying::add_sequences` meets its contract: after u turns the first u sequences are in the sum, `end` is where the next one starts, and `shift` how far it is moved.
use mathlib.Core.Path.{◌≡◌, sym, ap, subst, ◌∙◌}
use Prim.Native.Nat.{◌+◌}
use native.Mathlib.Nat.{zero-mul, mul-zero}
use native.Mathlib.Omega.{arith}
use lib.ListN.{length-take}
use Rattle.shifts.specs.Rule.{preview_shift}
use Rattle.system.specs.System.{sequence}
use Rattle.sequences.specs.Steps.Windows.{Summed}
use Rattle.sequences.proofs.SeenRuns.{seen_whole}
use Rattle.sequences.proofs.Summing.{summed_none}
use Rattle.preview_numbers.specs.Previews.{preview_packet}
use Rattle.preview_numbers.proofs.Sizes.{preview_shift_at_most}
use Rattle.preview_product.proofs.Theorems.{preview_rises}
use Rattle.preview_packets.proofs.Packets.{next_start, next_shift, run_inside, one_more, summed_packet}
use Rattle.preview_packets.proofs.laying.add_sequences.Goals as goal

pub loop-u-init : goal.loop-u-init
unfolding preview_shift
loop-u-init c =
    let s = c in
    let cleared = c.clear.ensures in
    (cleared.same_length ∙ s.requires.lengths.1, sym (mul-zero s.args.node), sym (zero-mul s.args.g.l), summed_none 0 _ _ _ cleared.zeros)

pub overflow_add-end : goal.overflow_add-end
overflow_add-end c =
    let s = c in
    omega (arith, run_inside s.args.g s.args.node s.requires.node s.args.file.now s.requires.lengths.0 c.loop-u.u (omega arith))

pub slice_bounds-add_run-end : goal.slice_bounds-add_run-end
slice_bounds-add_run-end c =
    let s = c in
    omega (arith, run_inside s.args.g s.args.node s.requires.node s.args.file.now s.requires.lengths.0 c.loop-u.u (omega arith))

pub add_run-requires : goal.add_run-requires
unfolding preview_packet
add_run-requires c =
    let s = c in
    let l = c.loop-u in
    simp length-take (omega (arith, preview_rises s.args.g s.args.node (l.u + 1) s.requires.node (omega arith) (omega arith)))

pub overflow_add-shift : goal.overflow_add-shift
overflow_add-shift c =
    let s = c in
    let l = c.loop-u in
    omega (arith, preview_rises s.args.g s.args.node (l.u + 1) s.requires.node (omega arith) (omega arith), preview_shift_at_most s.args.g s.args.node s.requires.node)

pub loop-u-preserved : goal.loop-u-preserved
loop-u-preserved c =
    let s = c in
    let l = c.loop-u in
    let seen = seen_whole _ _ _ _ c.add_run.ensures.letters in (
      seen.same_length ∙ l.invariant.0,
      ap (λ m. m + s.args.node) l.invariant.1 ∙ next_shift s.args.node l.u,
      ap (λ m. m + s.args.g.l) l.invariant.2 ∙ next_start s.args.g.l l.u,
      one_more s.args.g s.args.node s.requires.node s.args.file.now s.requires.lengths.0 l.u l.end l.shift _ _ (omega arith) l.invariant.2 l.invariant.1 l.invariant.3 seen,
    )

pub shape_of-packet : goal.shape_of-packet
shape_of-packet c = c.loop-u.invariant.0 ∙ sym c.requires.lengths.1

pub returns : goal.returns
returns c =
    let s = c in
    let l = c.loop-u in
    let done : l.u ≡ s.args.g.k = omega arith in
    summed_packet s.args.g s.args.node s.requires.node s.args.file.now s.requires.lengths.0 l.packet l.invariant.0
    (subst (λ m. Summed m 0 (preview_shift s.args.node) (sequence 0 s.args.file.now s.args.g.l) l.packet) done l.invariant.3)
