-- `of_takings` meets its contract: after every turn one entry more is in the sum.
use mathlib.Core.Path.{◌≡◌}
use Prim.Native.Nat.{◌*◌, ◌^◌, ◌≤◌}
use Rattle.letters.specs.Algebra.{counts, sum}
use Rattle.matrix.specs.Counts.{taking_out}
use Rattle.file_count.proofs.of_takings.Given as goal

abbrev pub invariant-loop-w : goal.invariant-loop-w
invariant-loop-w l = (l.count ≡ sum counts l.w (λ y. taking_out l.senders.g l.senders.ids.now l.run.buffer.now l.u l.v y)) × (l.count ≤ l.w * 2 ^ 32)
