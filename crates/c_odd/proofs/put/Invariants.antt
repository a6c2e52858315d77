-- `put` meets its contract: after i turns the numbers of the first i nodes are there.
use Rattle.c_odd.proofs.Numbers.{NumbersPut}
use Rattle.c_odd.proofs.put.Given as goal

abbrev pub invariant-loop-i : goal.invariant-loop-i
invariant-loop-i l = NumbersPut l.nodes l.report l.i
