-- `summing::add_packet` meets its contract: after each turn one entry more is in the sum, and `start` is where the next one starts.
use native.Mathlib.Omega.{arith}
use mathlib.Core.Path.{◌≡◌, refl, sym, ap, subst, ◌∙◌}
use native.Mathlib.Nat.{add-zero}
use Rattle.letters.specs.Algebra.{xors}
use Rattle.shifts.specs.Rule.{t}
use Rattle.lengths.specs.Lengths.{packet_length}
use Rattle.matrix.specs.Matrix.{matrix, packet_letter, packet}
use Rattle.matrix.proofs.EntryStarts.{first_start}
use Rattle.sequences.specs.Moved.{moved}
use Rattle.sequences.specs.Steps.Windows.{Summed}
use Rattle.sequences.proofs.Summing.{summed_none, summed_more, summed_run}
use Rattle.added_packets.proofs.add_packet.Goals as goal

pub loop-above-init : goal.loop-above-init
loop-above-init c =
    let s = c in
    (refl, c.free_start-start.ensures.0 ∙ first_start s.args.encoding.now.g s.args.column (omega arith), summed_none 0 _ _ _ s.requires.letters.1)

pub add_entry-requires : goal.add_entry-requires
add_entry-requires c =
    let s = c in
    let l = c.loop-above in
    record { entry = (omega arith, omega arith, omega arith, omega arith, l.invariant.1); letters = l.invariant.0 ∙ s.requires.letters.0 }

pub next_start-start-requires : goal.next_start-start-requires
next_start-start-requires c =
    let s = c in
    record { entry = (omega arith, omega arith); start = c.loop-above.invariant.1 }

pub loop-above-preserved : goal.loop-above-preserved
loop-above-preserved c =
    let s = c in (
      c.add_entry.ensures.same_length ∙ s.loop-above.invariant.0,
      c.next_start-start.ensures,
      summed_more s.loop-above.above 0 _ _ _ _ s.loop-above.invariant.2 c.add_entry.ensures,
    )

pub shape_of-letters : goal.shape_of-letters
shape_of-letters c = c.loop-above.invariant.0

pub returns : goal.returns
unfolding packet packet_letter
returns c =
    let s = c in
    let a = c.args in
    let done : s.loop-above.above ≡ a.encoding.now.g.d = omega arith in
    summed_run (packet_length a.encoding.now.g a.encoding.now.node a.column) a.encoding.now.g.d 0 (t a.encoding.now.node) (λ u. matrix xors a.encoding.now.g a.encoding.now.file.now u a.column)
    (packet_letter xors a.encoding.now.g a.encoding.now.file.now a.encoding.now.node a.column) s.loop-above.letters (s.loop-above.invariant.0 ∙ c.requires.letters.0)
    (subst (λ m. Summed m 0 (t a.encoding.now.node) (λ u. matrix xors a.encoding.now.g a.encoding.now.file.now u a.column) s.loop-above.letters) done s.loop-above.invariant.2)
    (λ p. ap (moved xors a.encoding.now.g.d (t a.encoding.now.node) (λ u. matrix xors a.encoding.now.g a.encoding.now.file.now u a.column)) (sym (add-zero p)))
