-- `seen` meets its contract: all letters before index at are the same.
use native.Mathlib.Omega.{arith}
use Prim.Native.Nat.{◌+◌}
use Rattle.matching.proofs.HowFar.{same_all}
use Rattle.matching_windows.proofs.Parts.{seen_on, ends_in_part, whole_part}
use Rattle.matching_windows.proofs.seen.Goals as goal

pub returns-then-same-end : goal.returns-then-same-end
returns-then-same-end c =
    let l = c.loop-at in
    ends_in_part _ _ l.at (l.at + c.min.result) (omega arith) (omega arith) _ _ (λ q h. seen_on _ _ _ _ _ _ l.at q) l.invariant c.seen_few-same.ensures (omega arith)

pub loop-at-preserved : goal.loop-at-preserved
loop-at-preserved c =
    let l = c.loop-at in
    whole_part _ _ l.at (l.at + c.min.result) (omega arith) (omega arith) _ _ (λ q h. seen_on _ _ _ _ _ _ l.at q) l.invariant c.seen_few-same.ensures (omega arith)

pub returns : goal.returns
returns c = same_all _ _ c.loop-at.at c.loop-at.invariant (omega arith)
