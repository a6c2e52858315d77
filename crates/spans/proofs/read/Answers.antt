-- `read` meets its contract: its signed number is the place that the first letter reads, where that is from 1 on, and below 1 the letters up to place 1 are skipped.
use native.Mathlib.Omega.{arith}
use Prim.Native.Nat.{◌+◌}
use Rattle.std.proofs.lemmas.Int.{ints}
use Rattle.spans.proofs.Reading.{reads_same}
use Rattle.spans.proofs.read.Goals as goal

pub returns-then-at-lt1 : goal.returns-then-at-lt1
returns-then-at-lt1 c =
    let a = c.args in
    reads_same 1 _ (a.q + a.own) a.moved a.top a.count _ _ _ (omega (arith, ints)) c.below.ensures
