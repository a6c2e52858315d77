-- `summing::add_packet` meets its contract: after each turn one entry more is in the sum, and `start` is where the next one starts.
use mathlib.Core.Path.{◌≡◌}
use Prim.Native.Nat.{◌+◌}
use lib.ListN.{length}
use Rattle.letters.specs.Algebra.{xors}
use Rattle.shifts.specs.Rule.{t}
use Rattle.matrix.specs.Matrix.{entry_start, matrix}
use Rattle.sequences.specs.Steps.Windows.{Summed}
use Rattle.added_packets.proofs.add_packet.Given as goal

abbrev pub invariant-loop-above : goal.invariant-loop-above
invariant-loop-above l = (length l.letters ≡ length l.initial.letters) × (l.start ≡ entry_start l.encoding.g (l.above + 1) l.column) × Summed l.above 0 (t l.encoding.node) (λ u. matrix xors l.encoding.g l.encoding.file.now u l.column) l.letters
