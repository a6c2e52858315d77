-- `of_solving` meets its contract: after every turn one sequence more is in the sum, which is the same terms in another order.
use mathlib.Core.Path.{◌≡◌}
use Prim.Native.Nat.{◌-◌, ◌*◌, ◌^◌, ◌≤◌}
use Rattle.letters.specs.Algebra.{counts, sum}
use Rattle.counting.specs.Steps.Taken.{others_terms}
use Rattle.counting.proofs.of_solving.Given as goal

abbrev pub invariant-loop-a : goal.invariant-loop-a
invariant-loop-a l = (l.count ≡ sum counts l.a (λ b. others_terms l.part ((b - 1) * l.n) l.n l.rows l.s b)) × (l.count ≤ l.a * (16 * 2 ^ 32))
