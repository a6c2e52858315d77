-- `known::packet` meets its contract: no shift is above 240.
use mathlib.Core.Path.{ap}
use Prim.Native.Nat.{◌+◌}
use Rattle.preview_numbers.specs.Previews.{preview_packet}
use Rattle.preview_numbers.proofs.known.Member.packet.Goals as goal

pub returns : goal.returns
unfolding preview_packet
returns c = ap (λ x. c.args.self.g.l + x) c.preview_shift.ensures.0
