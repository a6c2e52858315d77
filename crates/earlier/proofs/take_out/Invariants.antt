-- `take_out` meets its contract: after every turn the ranks up to b are done.
use Rattle.equation.specs.Rows.{shift_in}
use Rattle.earlier.specs.Taken.{TakesOut}
use Rattle.earlier.proofs.take_out.Given as goal

abbrev pub invariant-loop-b : goal.invariant-loop-b
invariant-loop-b l = let t = l.tile in TakesOut t.system.s t.system.n (shift_in t.system.rows.now) t.done t.count t.below t.hi l.initial.part l.b l.part
