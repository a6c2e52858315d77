-- `middle` meets its contract: the letters from where each run is seen are those that the window sees.
use native.Mathlib.Omega.{arith}
use lib.ListN.{length}
use Rattle.sums.specs.Sums.{sum_at}
use Rattle.sums.proofs.Sums.{inside_taken, sum_at_taken}
use Rattle.sequences.proofs.MovedRuns.{seen_from, seen_inside}
use Rattle.matching_windows.proofs.Parts.{same_by, sum_seen}
use Rattle.matching_windows.proofs.middle.Goals as goal

pub seen_starts-seen-requires : goal.seen_starts-seen-requires
seen_starts-seen-requires c = seen_from _ _ _ _ _ _ _ c.args.runs.now.runs c.requires (omega arith)

pub same-requires : goal.same-requires
same-requires c =
    let m = c.args.runs.now in
    let seen = c.seen_starts-seen.ensures in
    inside_taken _ _ _ _ (seen_inside m.from.now _ _ _ _ _ _ _ m.runs c.requires seen.later (omega (arith, seen.long, m.runs.few)))

pub returns : goal.returns
returns c =
    let m = c.args.runs.now in
    let seen = c.seen_starts-seen in
    let n = length m.starts.now in
    sum_seen _ _ _ seen.result _ _ _ _ _ m.runs c.requires seen.ensures
    (same_by _ _ (sum_at m.from.now seen.result n) _ (λ q h. sum_at_taken seen.result n m.from.now q (omega (arith, seen.ensures.long, m.runs.few))) c.same.ensures)
