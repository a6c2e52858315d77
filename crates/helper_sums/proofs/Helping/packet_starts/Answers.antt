-- `packet_starts` meets its contract: after every turn one start more stands in the list, and `start` is the next one.
use native.Mathlib.Omega.{arith}
use mathlib.Core.Path.{refl, sym, ap₂, ◌∙◌}
use Prim.Native.Nat.{◌+◌}
use lib.ListN.{length-set}
use Rattle.sums.proofs.Filled.{filled_more}
use Rattle.lengths.proofs.Sizes.{node_at_most, packet_fits}
use Rattle.matrix.proofs.Product.{packet_same, packet_first, packet_next}
use Rattle.helper_sums.proofs.Helping.packet_starts.Goals as goal

pub loop-j-init : goal.loop-j-init
loop-j-init c = (refl, sym (packet_first _ _), λ i h. absurd (omega arith))

pub overflow_add-start : goal.overflow_add-start
overflow_add-start c =
    let s = c in
    let l = c.loop-j in
    omega (arith, node_at_most s.args.self.now.g s.args.self.now.helper s.args.self.now.nodes.other, packet_fits s.args.self.now.g s.args.self.now.helper s.args.self.now.nodes.other (l.j + 1) (omega arith) (omega arith), l.invariant.1, s.args.self.now.sized, packet_same s.args.self.now.g s.args.self.now.helper 1 (l.j + 1))

pub loop-j-preserved : goal.loop-j-preserved
loop-j-preserved c =
    let s = c in
    let l = c.loop-j in
    let sized = s.args.self.now.sized ∙ packet_same s.args.self.now.g s.args.self.now.helper 1 (l.j + 1) in (
      simp length-set l.invariant.0,
      ap₂ ◌+◌ l.invariant.1 sized ∙ sym (packet_next s.args.self.now.g s.args.self.now.helper (l.j + 1) (omega arith)),
      filled_more l.starts l.j _ _ (omega arith) l.invariant.2 l.invariant.1,
    )

pub returns : goal.returns
returns c =
    let l = c.loop-j in
    record { size = l.invariant.0; packets = λ j h. l.invariant.2 j (omega arith) }
