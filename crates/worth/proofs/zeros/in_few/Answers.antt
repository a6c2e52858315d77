-- One letter more is looked at after each turn.
use Rattle.worth.proofs.Counted.{none_yet, zero_next, other_next}
use Rattle.worth.proofs.zeros.in_few.Goals.{then-letter-eq0, else-letter-eq0}
use Rattle.worth.proofs.zeros.in_few.Goals as goal

pub loop-letter-init : goal.loop-letter-init
loop-letter-init c = none_yet _

pub loop-letter-preserved : goal.loop-letter-preserved
loop-letter-preserved c =
    let l = c.loop-letter in
    elim c.if-letter-eq0.branch [
      | then-letter-eq0 w ↦ rw w.zeros-is (zero_next _ l.letter-index l.zeros l.invariant w.if-letter-eq0.true)
      | else-letter-eq0 w ↦ rw w.zeros-is (other_next _ l.letter-index l.zeros l.invariant w.if-letter-eq0.false)
    ]
