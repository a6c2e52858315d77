-- `laying::sequence_starts` meets its contract: after u turns the first u starts stand in the array, and `start` is where the next sequence starts.
use mathlib.Core.Path.{refl, sym, ap, ◌∙◌}
use Prim.Native.Nat.{◌+◌}
use native.Mathlib.Nat.{zero-mul, mul-le-mul}
use native.Mathlib.Omega.{arith}
use lib.ListN.{length-set}
use Rattle.group.specs.Ranges.{most_nodes}
use Rattle.preview_numbers.specs.Previews.{longest_preview}
use Rattle.sums.proofs.Filled.{filled_more}
use Rattle.preview_packets.proofs.Packets.{next_start}
use Rattle.preview_packets.proofs.laying.sequence_starts.Goals as goal

pub loop-u-init : goal.loop-u-init
loop-u-init c = (refl, sym (zero-mul _), λ v h. absurd (omega arith))

pub overflow_add-start : goal.overflow_add-start
overflow_add-start c =
    let g = c.args.g in
    let l = c.loop-u in
    omega (arith, mul-le-mul {n₁ = l.u} {m₁ = g.l} {n₂ = most_nodes} {m₂ = longest_preview} (omega arith) (omega arith))

pub loop-u-preserved : goal.loop-u-preserved
loop-u-preserved c =
    let g = c.args.g in
    let l = c.loop-u in
    (simp length-set l.invariant.0, ap (λ m. m + g.l) l.invariant.1 ∙ next_start g.l l.u, filled_more l.starts l.u _ _ (omega arith) l.invariant.2 l.invariant.1)

pub returns : goal.returns
returns c =
    let l = c.loop-u in
    record { size = l.invariant.0; each = λ u h. l.invariant.2 u (omega arith) }
