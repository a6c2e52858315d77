-- `Expected::right_packets` meets its contract: the packets before index end are right.
use mathlib.Core.Path.{◌≡◌}
use Prim.Native.Nat.{◌+◌}
use lib.ListN.{get_or}
use Rattle.letters.specs.Algebra.{xors}
use Rattle.lengths.specs.Lengths.{packet_start}
use Rattle.matrix.specs.Matrix.{packets as product}
use Rattle.matching.specs.Same.{SameTo}
use Rattle.comparing.proofs.Expected.right_packets.Given as goal

abbrev pub invariant-loop-j : goal.invariant-loop-j
invariant-loop-j l = (l.end ≡ packet_start l.self.encoding.now.g l.self.encoding.now.node (l.j + 1)) × SameTo l.held (λ q. get_or (product xors l.self.encoding.now.g l.self.encoding.now.file.now l.self.encoding.now.node) q 0) l.end
