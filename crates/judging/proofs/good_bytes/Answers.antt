-- `judging::good_bytes` meets its contract: the search stops where the first byte stands that can't.
use mathlib.Core.Path.{sym}
use native.Mathlib.Omega.{arith}
use Rattle.searching.proofs.Joining.{from_front}
use Rattle.judging.proofs.Verdicts.{stand_to}
use Rattle.judging.proofs.good_bytes.Goals as goal

pub returns : goal.returns
returns c =
    let s = c in
    stand_to s.args.share.now (record { below = λ i h. omega (arith, s.type_inv.share i) }) _
    (from_front _ _ (rw (sym c.head_in-head.ensures) c.first_wrong.ensures))
