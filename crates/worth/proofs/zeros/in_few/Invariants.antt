-- The zeros of the letters passed are counted.
use Rattle.worth.specs.Steps.Zeros.{Zeros}
use Rattle.worth.proofs.zeros.in_few.Given as goal

abbrev pub invariant-loop-letter : goal.invariant-loop-letter
invariant-loop-letter l = Zeros l.letters 0 l.letter-index l.zeros
