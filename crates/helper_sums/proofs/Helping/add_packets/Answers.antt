-- `add_packets` meets its contract: after each turn one packet more is in the sum, and `end` is where the next one starts.
use mathlib.Core.Path.{◌≡◌, refl, sym, ap₂, subst, ◌∙◌}
use mathlib.Core.List.{List}
use Prim.Native.Nat.{ℕ, ◌≤◌, ◌+◌, ◌-◌}
use lib.ListN.{length, take, drop}
use Rattle.letters.specs.Algebra.{xors}
use Rattle.letters.specs.Places.{letter}
use Rattle.shifts.specs.Rule.{t}
use Rattle.group.specs.declared.Group.{Group}
use Rattle.group.specs.Ranges.{NodeOf}
use Rattle.lengths.specs.Lengths.{packet_start, packet_length, node_letters, repair_letters}
use Rattle.lengths.proofs.Sizes.{node_at_most, packet_fits}
use Rattle.matrix.specs.Repair.{held_letter, helper_sum, helping}
use Rattle.sequences.specs.Steps.Windows.{Seen, Adds, Summed}
use Rattle.matrix.proofs.Product.{packet_same, packet_first, packet_next}
use Rattle.sequences.proofs.Summing.{part_adds, summed_none, summed_more, summed_run}
use native.Mathlib.Omega.{arith}
use Rattle.helper_sums.proofs.Helping.add_packets.Goals as goal

-- a packet is a part of what the helper holds, which the window sees moved right by the lost node's shift
packet_adds :
    (g : Group) (helper lost rank : ℕ) → NodeOf g helper → (held before after : List ℕ) (j start size skip lead : ℕ) → j + 1 ≤ g.d
    → length held ≡ node_letters g helper → start ≡ packet_start g helper (j + 1) → size ≡ packet_length g helper (j + 1)
    → skip ≡ t helper rank → lead ≡ t lost (j + 1) → Seen (take (start + size - start) (drop start held)) skip lead before after
    → Adds (held_letter xors g helper held (j + 1)) (t helper rank) (t lost (j + 1)) before after
unfolding held_letter
packet_adds g helper lost rank n held before after j start size skip lead last long starts sized skips leads seen =
    subst (λ m. Adds (held_letter xors g helper held (j + 1)) m (t lost (j + 1)) before after) skips
    (part_adds held (held_letter xors g helper held (j + 1)) start size (start + size) skip lead (t lost (j + 1)) before after
    (omega (arith, packet_fits g helper n (j + 1) (omega arith) last)) refl leads
    (λ p. ap₂ (λ a m. letter 0 held a m p) starts sized) seen)

pub loop-j-init : goal.loop-j-init
loop-j-init c =
    let s = c in
    (refl, sym (packet_first s.args.self.now.g s.args.self.now.helper), summed_none _ _ _ _ c.clear.ensures.zeros)

pub overflow_add-end : goal.overflow_add-end
overflow_add-end c =
    let s = c in
    let l = c in
    omega (arith, node_at_most s.args.self.now.g s.args.self.now.helper s.args.self.now.nodes.other, packet_fits s.args.self.now.g s.args.self.now.helper s.args.self.now.nodes.other (l.loop-j.j + 1) (omega arith) (omega arith), l.loop-j.invariant.1, s.args.self.now.sized, packet_same s.args.self.now.g s.args.self.now.helper 1 (l.loop-j.j + 1))

pub slice_bounds-add_seen-end : goal.slice_bounds-add_seen-end
slice_bounds-add_seen-end c =
    let s = c in
    let l = c in
    omega (arith, s.args.self.now.held, packet_fits s.args.self.now.g s.args.self.now.helper s.args.self.now.nodes.other (l.loop-j.j + 1) (omega arith) (omega arith), l.loop-j.invariant.1, s.args.self.now.sized, packet_same s.args.self.now.g s.args.self.now.helper 1 (l.loop-j.j + 1))

pub loop-j-preserved : goal.loop-j-preserved
loop-j-preserved c =
    let s = c in
    let l = c in
    let sized = s.args.self.now.sized ∙ packet_same s.args.self.now.g s.args.self.now.helper 1 (l.loop-j.j + 1) in (
      c.add_seen.ensures.same_length ∙ l.loop-j.invariant.0,
      ap₂ ◌+◌ l.loop-j.invariant.1 sized ∙ sym (packet_next s.args.self.now.g s.args.self.now.helper (l.loop-j.j + 1) (omega arith)),
      summed_more l.loop-j.j _ _ _ _ _ l.loop-j.invariant.2
          (packet_adds s.args.self.now.g s.args.self.now.helper s.args.self.now.lost s.args.self.now.rank s.args.self.now.nodes.other s.args.self.now.packets.now _ _ l.loop-j.j _ _ _ _ (omega arith) s.args.self.now.held l.loop-j.invariant.1 sized c.skip-skip.ensures c.shift_in-lead.ensures c.add_seen.ensures),
    )

pub shape_of-piece : goal.shape_of-piece
shape_of-piece c = c.loop-j.invariant.0 ∙ c.clear.ensures.same_length

pub returns : goal.returns
unfolding helping helper_sum
returns c =
    let l = c in
    let s = c in
    let a = s.args.self.now in
    let done : l.loop-j.j ≡ a.g.d = omega arith in
    summed_run (repair_letters a.g a.lost) a.g.d (t a.helper a.rank) (t a.lost) (held_letter xors a.g a.helper a.packets.now)
    (λ p. helper_sum xors a.g a.lost a.helper a.packets.now (p + t a.helper a.rank)) l.loop-j.piece (l.loop-j.invariant.0 ∙ c.clear.ensures.same_length ∙ s.requires)
    (subst (λ m. Summed m (t a.helper a.rank) (t a.lost) (held_letter xors a.g a.helper a.packets.now) l.loop-j.piece) done l.loop-j.invariant.2)
    (λ p. refl)
