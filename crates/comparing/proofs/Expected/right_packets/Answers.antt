-- `Expected::right_packets` meets its contract: the packets before index end are right.
use native.Mathlib.Omega.{arith}
use mathlib.Core.Path.{sym, ◌∙◌}
use Prim.Native.Nat.{◌+◌}
use Rattle.lengths.proofs.Sizes.{node_at_most, packet_fits}
use Rattle.matrix.proofs.Product.{packet_same, packet_first}
use Rattle.matrix.proofs.OneAfterAnother.{lent, ends}
use Rattle.matching.proofs.HowFar.{same_none, same_all}
use Rattle.comparing.proofs.Packets.{ends_in_packet, packet_more, after_all}
use Rattle.comparing.proofs.Expected.right_packets.Goals as goal

pub loop-j-init : goal.loop-j-init
loop-j-init c = (sym (packet_first c.args.self.now.encoding.now.g c.args.self.now.encoding.now.node), same_none _ _)

pub overflow_add-end : goal.overflow_add-end
overflow_add-end c =
    let l = c.loop-j in
    omega (arith, node_at_most c.args.self.now.encoding.now.g c.args.self.now.encoding.now.node c.args.self.now.encoding.now.known, packet_fits c.args.self.now.encoding.now.g c.args.self.now.encoding.now.node c.args.self.now.encoding.now.known (l.j + 1) (omega arith) (omega arith), l.invariant.0, c.args.self.now.encoding.now.sized, packet_same c.args.self.now.encoding.now.g c.args.self.now.encoding.now.node 1 (l.j + 1))

pub slice_bounds-right_packet-end : goal.slice_bounds-right_packet-end
slice_bounds-right_packet-end c =
    let l = c.loop-j in
    omega (arith, c.requires, packet_fits c.args.self.now.encoding.now.g c.args.self.now.encoding.now.node c.args.self.now.encoding.now.known (l.j + 1) (omega arith) (omega arith), l.invariant.0, c.args.self.now.encoding.now.sized, packet_same c.args.self.now.encoding.now.g c.args.self.now.encoding.now.node 1 (l.j + 1))

pub right_packet-right-requires : goal.right_packet-right-requires
right_packet-right-requires c =
    let l = c.loop-j in
    let sized = c.args.self.now.encoding.now.sized ∙ packet_same c.args.self.now.encoding.now.g c.args.self.now.encoding.now.node 1 (l.j + 1) in record { column = (omega arith, omega arith); held = lent c.args.self.now.encoding.now.g c.args.self.now.encoding.now.node c.args.self.now.encoding.now.known c.args.held.now l.j _ _ (omega arith) c.requires l.invariant.0 sized }

pub overflow_add-result : goal.overflow_add-result
overflow_add-result c =
    let l = c.loop-j in
    omega (arith, c.requires, packet_fits c.args.self.now.encoding.now.g c.args.self.now.encoding.now.node c.args.self.now.encoding.now.known (l.j + 1) (omega arith) (omega arith), l.invariant.0, c.args.self.now.encoding.now.sized, packet_same c.args.self.now.encoding.now.g c.args.self.now.encoding.now.node 1 (l.j + 1), node_at_most c.args.self.now.encoding.now.g c.args.self.now.encoding.now.node c.args.self.now.encoding.now.known, c.if-right-size.true)

pub returns-then-right-size : goal.returns-then-right-size
returns-then-right-size c =
    let l = c.loop-j in
    let sized = c.args.self.now.encoding.now.sized ∙ packet_same c.args.self.now.encoding.now.g c.args.self.now.encoding.now.node 1 (l.j + 1) in
    ends_in_packet c.args.self.now.encoding.now.g c.args.self.now.encoding.now.node c.args.self.now.encoding.now.known _ _ l.j _ _ _ (omega arith) c.requires l.invariant.0 sized l.invariant.1 c.right_packet-right.ensures c.if-right-size.true

pub loop-j-preserved : goal.loop-j-preserved
loop-j-preserved c =
    let l = c.loop-j in
    let sized = c.args.self.now.encoding.now.sized ∙ packet_same c.args.self.now.encoding.now.g c.args.self.now.encoding.now.node 1 (l.j + 1) in (
      ends c.args.self.now.encoding.now.g c.args.self.now.encoding.now.node l.j _ _ l.invariant.0 sized,
      packet_more c.args.self.now.encoding.now.g c.args.self.now.encoding.now.node c.args.self.now.encoding.now.known _ _ l.j _ _ _ (omega arith) c.requires l.invariant.0 sized l.invariant.1 c.right_packet-right.ensures c.if-right-size.false,
    )

pub returns : goal.returns
returns c =
    let l = c.loop-j in
    same_all _ _ l.end l.invariant.1 (after_all c.args.self.now.encoding.now.g c.args.self.now.encoding.now.node c.args.held.now l.j l.end (omega arith) l.invariant.0 c.requires)
