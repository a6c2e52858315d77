-- `summing::add_packets` meets its contract: after j turns the first j packets stand one after another at the front, up to `end`, and the rest is zero.
use mathlib.Core.Path.{◌≡◌}
use Prim.Native.Nat.{ℕ, ◌≤◌, ◌+◌}
use lib.ListN.{length, get_or, take}
use Rattle.letters.specs.Algebra.{xors}
use Rattle.lengths.specs.Lengths.{packet_start}
use Rattle.sequences.specs.Lists.{joined}
use Rattle.matrix.specs.Matrix.{packet}
use Rattle.added_packets.proofs.add_packets.Given as goal

abbrev pub invariant-loop-j : goal.invariant-loop-j
invariant-loop-j l = (length l.packets ≡ length l.initial.packets) × (l.end ≡ packet_start l.encoding.g l.encoding.node (l.j + 1)) × (take l.end l.packets ≡ joined l.j (packet xors l.encoding.g l.encoding.file.now l.encoding.node)) × ((q : ℕ) → l.end ≤ q → get_or l.packets q 0 ≡ 0)
