-- `laying::lay_packets` meets its contract: after j turns the first j packets stand one after another at the front, up to `end`.
use native.Mathlib.Omega.{arith}
use mathlib.Core.Path.{refl, sym, ◌∙◌}
use Prim.Native.Nat.{◌+◌}
use Rattle.lengths.proofs.Sizes.{node_at_most, packet_fits}
use Rattle.sequences.specs.Lists.{joined}
use Rattle.matrix.proofs.Product.{packet_same, packet_first}
use Rattle.matrix.proofs.OneAfterAnother.{lent, kept, next, ends, all_packets}
use Rattle.laid_packets.proofs.lay_packets.Goals as goal

pub loop-j-init : goal.loop-j-init
unfolding joined
loop-j-init c =
    let s = c in
    (refl, sym (packet_first s.args.encoding.now.g s.args.encoding.now.node), refl)

pub overflow_add-end : goal.overflow_add-end
overflow_add-end c =
    let s = c in
    let l = c.loop-j in
    omega (arith, node_at_most s.args.encoding.now.g s.args.encoding.now.node s.args.encoding.now.known, packet_fits s.args.encoding.now.g s.args.encoding.now.node s.args.encoding.now.known (l.j + 1) (omega arith) (omega arith), l.invariant.1, s.args.encoding.now.sized, packet_same s.args.encoding.now.g s.args.encoding.now.node 1 (l.j + 1))

pub slice_bounds-lay_packet-end : goal.slice_bounds-lay_packet-end
slice_bounds-lay_packet-end c = sym c.row-shifts.ensures.size

pub slice_bounds-lay_packet-end-in-loop-j : goal.slice_bounds-lay_packet-end-in-loop-j
slice_bounds-lay_packet-end-in-loop-j c =
    let s = c in
    let l = c.loop-j in
    omega (arith, s.requires.lengths, l.invariant.0, packet_fits s.args.encoding.now.g s.args.encoding.now.node s.args.encoding.now.known (l.j + 1) (omega arith) (omega arith), l.invariant.1, s.args.encoding.now.sized, packet_same s.args.encoding.now.g s.args.encoding.now.node 1 (l.j + 1))

pub lay_packet-requires : goal.lay_packet-requires
lay_packet-requires c =
    let s = c in
    let l = c.loop-j in
    let sized = s.args.encoding.now.sized ∙ packet_same s.args.encoding.now.g s.args.encoding.now.node 1 (l.j + 1) in record { shifts = c.row-shifts.ensures; column = (omega arith, omega arith, c.requires.size); letters = lent s.args.encoding.now.g s.args.encoding.now.node s.args.encoding.now.known l.packets l.j _ _ (omega arith) (l.invariant.0 ∙ s.requires.lengths) l.invariant.1 sized }

pub loop-j-preserved : goal.loop-j-preserved
loop-j-preserved c =
    let s = c in
    let l = c.loop-j in
    let long = l.invariant.0 ∙ s.requires.lengths in
    let sized = s.args.encoding.now.sized ∙ packet_same s.args.encoding.now.g s.args.encoding.now.node 1 (l.j + 1) in (
      kept s.args.encoding.now.g s.args.encoding.now.node s.args.encoding.now.known s.args.encoding.now.file.now l.packets _ l.j _ _ (omega arith) long l.invariant.1 sized l.invariant.2 c.lay_packet.ensures ∙ l.invariant.0,
      ends s.args.encoding.now.g s.args.encoding.now.node l.j _ _ l.invariant.1 sized,
      next s.args.encoding.now.g s.args.encoding.now.node s.args.encoding.now.known s.args.encoding.now.file.now l.packets _ l.j _ _ (omega arith) long l.invariant.1 sized l.invariant.2 c.lay_packet.ensures,
    )

pub shape_of-packets : goal.shape_of-packets
shape_of-packets c = c.loop-j.invariant.0

pub returns : goal.returns
returns c =
    let s = c in
    let l = c.loop-j in
    all_packets s.args.encoding.now.g s.args.encoding.now.node s.args.encoding.now.file.now l.packets l.j l.end (omega arith) l.invariant.1 (l.invariant.0 ∙ s.requires.lengths) l.invariant.2
