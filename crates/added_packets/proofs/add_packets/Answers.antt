-- `summing::add_packets` meets its contract: after j turns the first j packets stand one after another at the front, up to `end`, and the rest is zero.
use native.Mathlib.Omega.{arith}
use mathlib.Core.Path.{◌≡◌, refl, sym, ◌∙◌}
use mathlib.Core.List.{List}
use mathlib.Core.Logic.{⊎_elim}
use Prim.Native.Nat.{ℕ, ◌≤◌, ◌+◌, ◌-◌}
use lib.ListN.{get_or, take, drop, length-take, get_or-eq_default}
use lib.Seq.{get_or-take, get_or-drop}
use Rattle.letters.proofs.Cases.{le_or_lt}
use Rattle.lengths.proofs.Sizes.{node_at_most, packet_fits}
use Rattle.sequences.specs.Lists.{joined}
use Rattle.sequences.specs.Steps.Windows.{Zeros}
use Rattle.matrix.proofs.Product.{packet_same, packet_first}
use Rattle.matrix.proofs.OneAfterAnother.{lent, kept, next, rest_kept, ends, all_packets}
use Rattle.added_packets.proofs.add_packets.Goals as goal

-- the part that is lent is zero, as everything from its start on
lent_zeros : (xs : List ℕ) (start size : ℕ) → ((q : ℕ) → start ≤ q → get_or xs q 0 ≡ 0) → Zeros (take size (drop start xs))
lent_zeros xs start size rest =
    record {
      zero =
          λ q.
          ⊎_elim (λ (past : size ≤ q). get_or-eq_default (take size (drop start xs)) 0 (rw length-take (omega arith)))
          (λ h. get_or-take size (drop start xs) q 0 h ∙ get_or-drop start xs q 0 ∙ rest (start + q) (omega arith))
          (le_or_lt size q);
    }

pub loop-j-init : goal.loop-j-init
unfolding joined
loop-j-init c =
    let s = c in
    (refl, sym (packet_first s.args.encoding.now.g s.args.encoding.now.node), refl, λ q h. c.clear.ensures.zeros.zero q)

pub overflow_add-end : goal.overflow_add-end
overflow_add-end c =
    let s = c in
    let l = c in
    omega (arith, node_at_most s.args.encoding.now.g s.args.encoding.now.node s.args.encoding.now.known, packet_fits s.args.encoding.now.g s.args.encoding.now.node s.args.encoding.now.known (l.loop-j.j + 1) (omega arith) (omega arith), l.loop-j.invariant.1, s.args.encoding.now.sized, packet_same s.args.encoding.now.g s.args.encoding.now.node 1 (l.loop-j.j + 1))

pub slice_bounds-add_packet-end : goal.slice_bounds-add_packet-end
slice_bounds-add_packet-end c =
    let s = c in
    let l = c in
    omega (arith, s.requires, l.loop-j.invariant.0, c.clear.ensures.same_length, packet_fits s.args.encoding.now.g s.args.encoding.now.node s.args.encoding.now.known (l.loop-j.j + 1) (omega arith) (omega arith), l.loop-j.invariant.1, s.args.encoding.now.sized, packet_same s.args.encoding.now.g s.args.encoding.now.node 1 (l.loop-j.j + 1))

pub add_packet-requires : goal.add_packet-requires
add_packet-requires c =
    let s = c in
    let l = c in record {
      column = (omega arith, omega arith);
      letters = (
        lent s.args.encoding.now.g s.args.encoding.now.node s.args.encoding.now.known l.loop-j.packets l.loop-j.j _ _ (omega arith) (l.loop-j.invariant.0 ∙ c.clear.ensures.same_length ∙ s.requires)
            l.loop-j.invariant.1 (s.args.encoding.now.sized ∙ packet_same s.args.encoding.now.g s.args.encoding.now.node 1 (l.loop-j.j + 1)),
        lent_zeros l.loop-j.packets l.loop-j.end (l.loop-j.end + s.args.encoding.now.size - l.loop-j.end) l.loop-j.invariant.3,
      );
    }

pub loop-j-preserved : goal.loop-j-preserved
loop-j-preserved c =
    let s = c in
    let l = c in
    let long = l.loop-j.invariant.0 ∙ c.clear.ensures.same_length ∙ s.requires in
    let sized = s.args.encoding.now.sized ∙ packet_same s.args.encoding.now.g s.args.encoding.now.node 1 (l.loop-j.j + 1) in (
      kept s.args.encoding.now.g s.args.encoding.now.node s.args.encoding.now.known s.args.encoding.now.file.now l.loop-j.packets _ l.loop-j.j _ _ (omega arith) long l.loop-j.invariant.1 sized l.loop-j.invariant.2 c.add_packet.ensures ∙ l.loop-j.invariant.0,
      ends s.args.encoding.now.g s.args.encoding.now.node l.loop-j.j _ _ l.loop-j.invariant.1 sized,
      next s.args.encoding.now.g s.args.encoding.now.node s.args.encoding.now.known s.args.encoding.now.file.now l.loop-j.packets _ l.loop-j.j _ _ (omega arith) long l.loop-j.invariant.1 sized l.loop-j.invariant.2 c.add_packet.ensures,
      λ q h. rest_kept s.args.encoding.now.g s.args.encoding.now.node s.args.encoding.now.known s.args.encoding.now.file.now l.loop-j.packets _ l.loop-j.j _ _ (omega arith) long l.loop-j.invariant.1 sized l.loop-j.invariant.2 c.add_packet.ensures q h ∙ l.loop-j.invariant.3 q (omega arith),
    )

pub shape_of-packets : goal.shape_of-packets
shape_of-packets c = c.loop-j.invariant.0 ∙ c.clear.ensures.same_length

pub returns : goal.returns
returns c =
    let s = c in
    let l = c in
    all_packets s.args.encoding.now.g s.args.encoding.now.node s.args.encoding.now.file.now l.loop-j.packets l.loop-j.j l.loop-j.end (omega arith) l.loop-j.invariant.1 (l.loop-j.invariant.0 ∙ c.clear.ensures.same_length ∙ s.requires) l.loop-j.invariant.2
