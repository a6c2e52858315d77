-- The odd letters are what eights leave over.
use Rattle.std.proofs.Common.{◌%◌, length, sym, subst, arith}
use Rattle.worth.specs.Steps.Zeros.{Zeros}
use Rattle.worth.proofs.Counted.{leftover, first}
use Rattle.worth.proofs.zeros.in_rests.Goals as goal

pub in_rest-zeros-requires-clause-zeros : goal.in_rest-zeros-requires-clause-zeros
in_rest-zeros-requires-clause-zeros c =
    let letters = c.args.letters.now in
    let odd = length letters % 8 in
    subst (λ n. Zeros letters 0 n c.in_few-zeros.result) (sym (leftover (length letters) 8)) (first letters odd _ (omega arith) c.in_few-zeros.ensures)
