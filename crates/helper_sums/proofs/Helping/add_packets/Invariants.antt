-- `add_packets` meets its contract: after each turn one packet more is in the sum, and `end` is where the next one starts.
use mathlib.Core.Path.{◌≡◌}
use Prim.Native.Nat.{◌+◌}
use lib.ListN.{length}
use Rattle.letters.specs.Algebra.{xors}
use Rattle.shifts.specs.Rule.{t}
use Rattle.lengths.specs.Lengths.{packet_start}
use Rattle.matrix.specs.Repair.{held_letter}
use Rattle.sequences.specs.Steps.Windows.{Summed}
use Rattle.helper_sums.proofs.Helping.add_packets.Given as goal

abbrev pub invariant-loop-j : goal.invariant-loop-j
invariant-loop-j l = (length l.piece ≡ length l.initial.piece) × (l.end ≡ packet_start l.self.g l.self.helper (l.j + 1)) × Summed l.j (t l.self.helper l.self.rank) (t l.self.lost) (held_letter xors l.self.g l.self.helper l.self.packets.now) l.piece
