-- `encoding::encode_packets` meets its contract: both ways leave the product.
use native.Mathlib.Omega.{arith}
use Rattle.lengths.specs.Lengths.{packet_length}
use Rattle.lengths.proofs.Sizes.{node_at_most, packet_fits}
use Rattle.nodes.proofs.encoding.encode_packets.Goals as goal

pub overflow_sub-widest : goal.overflow_sub-widest
unfolding packet_length
overflow_sub-widest c = omega arith

pub overflow_add-widest : goal.overflow_add-widest
overflow_add-widest c =
    let e = c.args.encoding.now in
    omega (arith, node_at_most e.g e.node e.known, packet_fits e.g e.node e.known 1 (omega arith) (omega arith))
