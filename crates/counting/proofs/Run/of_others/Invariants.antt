-- `Run::of_others` meets its contract: after every turn one rank more is in the sum.
use mathlib.Core.Path.{◌≡◌}
use Prim.Native.Nat.{◌*◌, ◌^◌, ◌≤◌}
use Rattle.counting.specs.Steps.Taken.{others_terms}
use Rattle.counting.proofs.Run.of_others.Given as goal

abbrev pub invariant-loop-b : goal.invariant-loop-b
invariant-loop-b l = (l.count ≡ others_terms l.self.buffer.now l.self.start l.self.n l.rows l.b l.a) × (l.count ≤ l.b * 2 ^ 32)
