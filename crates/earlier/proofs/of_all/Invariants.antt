-- `of_all` meets its contract: after every turn what the run reads of the first a sequences is out.
use Rattle.equation.specs.Rows.{shift_in}
use Rattle.earlier.specs.Steps.{TakesAll}
use Rattle.earlier.proofs.of_all.Given as goal

abbrev pub invariant-loop-a : goal.invariant-loop-a
invariant-loop-a l = let t = l.tile in TakesAll t.system.n (shift_in t.system.rows.now) t.done t.count l.b l.a l.initial.part l.part
