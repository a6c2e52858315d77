-- `judging::judge` meets its contract: where the reader's loops stop tells what the bytes are.
use mathlib.Core.Path.{refl, sym}
use native.Mathlib.Omega.{arith}
use Rattle.heads.proofs.HeadLaws.{size_told, total_small}
use Rattle.searching.proofs.Joining.{from_front}
use Rattle.judging.proofs.Verdicts.{judges}
use Rattle.judging.proofs.judge.Goals as goal

pub judged-requires : goal.judged-requires
judged-requires c = omega (arith, total_small c.head_in-head.result)

pub returns : goal.returns
returns c =
    let s = c in
    judges s.args.share.now (record { below = λ i h. omega (arith, s.type_inv.share i) }) _ (from_front _ _ (rw (sym c.head_in-head.ensures) c.first_wrong-at.ensures)) _ _ _ _ _ (size_told _ _ _ refl c.head_in-head.ensures)
    c.head_in-head.ensures c.total-letters.ensures refl c.judged.ensures
