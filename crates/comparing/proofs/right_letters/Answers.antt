-- `right_letters` meets its contract.
use Rattle.lengths.specs.Lengths.{packet_length}
use Rattle.comparing.proofs.right_letters.Goals as goal

pub invariant_of-encoding : goal.invariant_of-encoding
unfolding packet_length
invariant_of-encoding c = record { shifts = c.all-table.ensures; known = c.requires.node; sized = c.widened_in.ensures.0; whole = c.requires.lengths.0 }

pub invariant_of-widened_in : goal.invariant_of-widened_in
invariant_of-widened_in c = record { of = c.requires.node }
