-- `laying::encode_packet` meets its contract: both ways leave the packet.
use native.Mathlib.Omega.{arith}
use Rattle.preview_numbers.specs.Previews.{preview_packet}
use Rattle.preview_packets.proofs.laying.encode_packet.Goals as goal

pub overflow_sub-widest : goal.overflow_sub-widest
unfolding preview_packet
overflow_sub-widest c = omega arith
