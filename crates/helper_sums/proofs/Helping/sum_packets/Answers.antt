-- `sum_packets` meets its contract: both ways leave the piece.
use native.Mathlib.Omega.{arith}
use Rattle.lengths.specs.Lengths.{packet_length}
use Rattle.lengths.proofs.Sizes.{node_at_most, packet_fits}
use Rattle.helper_sums.proofs.Helping.sum_packets.Goals as goal

pub overflow_add-front : goal.overflow_add-front
unfolding packet_length
overflow_add-front c =
    let s = c.args.self.now in
    omega (arith, c.saturating_sub-front.ensures, c.shift_in-widest.ensures, node_at_most s.g s.lost s.nodes.node, packet_fits s.g s.lost s.nodes.node 1 (omega arith) (omega arith))

pub lay_packets-requires : goal.lay_packets-requires
lay_packets-requires c =
    record {
      room = c.requires;
      middle = record {
        order = omega arith;
        begun = omega (arith, c.saturating_sub-front.ensures, c.shift_in-widest.ensures, c.skip-skip.ensures);
        going = omega (arith, c.min-back.ensures, c.saturating_sub.ensures, c.skip-skip.ensures);
        ends = omega (arith, c.min-back.ensures);
      };
    }
