-- After every turn one letter more of the sum is laid; the runs that it is taken from are as they came from there on.
use Rattle.std.proofs.Common.{◌≡◌, ℕ, ◌+◌, ◌-◌, ap, ◌∙◌, arith}
use Rattle.letters.proofs.Laying.{laid_one}
use Rattle.sums.specs.Sums.{sum_at}
use Rattle.sums.proofs.Sums.{ends_inside, sum_at_same}
use Rattle.laid_sums_within.proofs.within.lay_letters.Goals as goal

past : (to at : ℕ) → at ≡ to + at - to
past to at = omega arith

pub loop-at-preserved : goal.loop-at-preserved
loop-at-preserved c =
    let l = c.loop-at in
    laid_one _ _ _ _ _ _ _ (omega arith) (omega arith) (omega (arith, ends_inside _ _ _ _ _ c.requires.0 c.requires.1)) l.invariant
    (c.letter.ensures ∙ sum_at_same _ _ _ _ _ _ l.at _ _ c.requires.1 l.invariant (omega arith) ∙ ap (sum_at _ _ _) (past c.args.to l.at))
