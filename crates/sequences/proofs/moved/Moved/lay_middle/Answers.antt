-- `moved::Moved::lay_middle` meets its contract: the letters from where each run is seen are those that the window sees.
use native.Mathlib.Omega.{arith}
use mathlib.Core.Path.{refl}
use lib.ListN.{length}
use Rattle.letters.proofs.Laying.{laid_as}
use Rattle.sums.specs.Sums.{sum_at}
use Rattle.sums.proofs.Sums.{inside_taken, sum_at_taken}
use Rattle.sequences.proofs.MovedRuns.{seen_from, seen_inside, middle_summed}
use Rattle.sequences.proofs.moved.Moved.lay_middle.Goals as goal

pub seen_starts-seen-requires : goal.seen_starts-seen-requires
seen_starts-seen-requires c = seen_from _ _ _ _ _ _ _ c.args.self.now.runs c.requires (omega arith)

pub lay-requires : goal.lay-requires
lay-requires c =
    let m = c.args.self.now in
    let seen = c.seen_starts-seen.ensures in
    inside_taken _ _ _ _ (seen_inside m.from.now _ _ _ _ _ _ _ m.runs c.requires seen.later (omega (arith, seen.long, m.runs.few)))

pub returns : goal.returns
returns c =
    let m = c.args.self.now in
    let seen = c.seen_starts-seen in
    let n = length m.starts.now in
    middle_summed _ _ _ seen.result _ _ _ _ m.runs c.requires seen.ensures.later _ _ refl
    (laid_as _ _ _ _ _ (sum_at m.from.now seen.result n) (λ p lo hi. sum_at_taken seen.result n m.from.now p (omega (arith, seen.ensures.long, m.runs.few))) c.lay.ensures)
