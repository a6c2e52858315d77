-- `kept::ids` meets its contract: after v turns the first v ids are there.
use native.Mathlib.Omega.{arith}
use mathlib.Core.Path.{refl, ap}
use Prim.Native.Nat.{◌+◌, ◌-◌}
use lib.ListN.{get_or, length-set}
use Rattle.sums.proofs.Filled.{filled_more}
use Rattle.agreement.proofs.Choices.{passing}
use Rattle.gathering.proofs.KeptIds.{kept_front}
use Rattle.gathering.proofs.kept.ids.Goals as goal

pub loop-v-init : goal.loop-v-init
loop-v-init c = (refl, λ i h. absurd (omega arith))

pub overflow_sub-kept : goal.overflow_sub-kept
overflow_sub-kept c = omega (arith, c.rank-rank.ensures, (passing c.args.without (c.loop-v.v + 1)).up)

pub offset_bounds-all-rank : goal.offset_bounds-all-rank
offset_bounds-all-rank c = omega (arith, c.requires.0, c.rank-rank.ensures, (passing c.args.without (c.loop-v.v + 1)).by_one)

pub bounds-all-rank : goal.bounds-all-rank
bounds-all-rank c = omega (arith, c.rank-rank.ensures, (passing c.args.without (c.loop-v.v + 1)).by_one)

pub bounds-kept-v : goal.bounds-kept-v
bounds-kept-v c = omega (arith, c.requires.0)

pub loop-v-preserved : goal.loop-v-preserved
loop-v-preserved c =
    let l = c.loop-v in
    (simp length-set l.invariant.0, filled_more l.kept l.v _ _ (omega (arith, l.invariant.0, c.requires.0)) l.invariant.1 (ap (λ r. get_or c.args.all.now (r - 1) 0) c.rank-rank.ensures))

pub returns : goal.returns
returns c =
    let l = c.loop-v in
    record { size = l.invariant.0; front = kept_front _ _ _ l.kept c.requires.0 l.invariant.0 (λ i h. l.invariant.1 i (omega arith)) }
