-- The odd letters are looked at already, and one block more after each turn.
use Rattle.std.proofs.Common.{◌≡◌, ◌+◌, ◌*◌, ◌%◌, ◌∙◌, length, refl, sym, subst, arith, add-zero}
use Rattle.letters.specs.Steps.Rests.{widest_block}
use Rattle.worth.specs.Steps.Zeros.{Zeros}
use Rattle.worth.proofs.Counted.{leftover, lent, part_next}
use Rattle.worth.proofs.zeros.in_blocks.Goals as goal

pub loop-b-init : goal.loop-b-init
loop-b-init c =
    let count = length c.args.letters.now in
    subst (λ n. Zeros c.args.letters.now 0 n c.args.rests) (leftover count widest_block ∙ sym (add-zero (count % widest_block))) c.requires

pub loop-b-preserved : goal.loop-b-preserved
loop-b-preserved c =
    let letters = c.args.letters.now in
    let l = c.loop-b in
    let passed = length letters % widest_block + l.b * widest_block in
    let n : length letters % widest_block + (l.b + 1) * widest_block ≡ passed + widest_block = omega arith in
    rw n (part_next letters passed widest_block l.zeros _ l.invariant (lent letters passed widest_block _ _ refl (omega arith) c.in_few-zeros.ensures))
