-- `summing::add_entry` meets its contract: the entry is a run of the file, which fits the packet, or lies in the zero corner.
use Rattle.matrix.specs.Matrix.{entry_start, matrix}
use Rattle.letters.specs.Places.{letter}
use Rattle.letters.proofs.Runs.{length_added}
use Rattle.lengths.specs.Lengths.{packet_length}
use Prim.Native.Nat.{◌≤◌, min}
use mathlib.Core.Path.{refl, ap, ◌∙◌}
use lib.ListN.{length, length-take}
use Rattle.letters.specs.Algebra.{xors}
use Rattle.matrix.proofs.EntryStarts.{start_at_most, start_fits}
use Rattle.matrix.proofs.Product.{shift_rises, corner, entry_letter}
use Rattle.sequences.proofs.SeenRuns.{seen_whole}
use Rattle.sequences.proofs.Summing.{adds_nothing, part_adds}
use native.Mathlib.Omega.{arith}
use Rattle.added_packets.proofs.add_entry.Goals.{then-g-column+else-g-row, else-g-column}
use Rattle.added_packets.proofs.add_entry.Goals as goal

pub returns-then-g-row : goal.returns-then-g-row
returns-then-g-row c =
    let s = c in
    adds_nothing _ 0 _ _ (λ p. corner xors s.args.encoding.now.g s.args.encoding.now.file.now s.args.row s.args.column p (omega arith) (omega arith))

pub overflow_add-end : goal.overflow_add-end
overflow_add-end c =
    let s = c in
    omega (arith, start_at_most s.args.encoding.now.g s.args.encoding.now.known.group s.args.row s.args.column (omega arith) (omega arith) (omega arith) (omega arith))

pub slice_bounds-add_run-end : goal.slice_bounds-add_run-end
slice_bounds-add_run-end c =
    let s = c in
    omega (arith, start_fits s.args.encoding.now.g s.args.encoding.now.known.group s.args.row s.args.column (omega arith) (omega arith) (omega arith) (omega arith) (elim c.if-g-column.branch [ then-g-column+else-g-row w ↦ omega arith | else-g-column w ↦ omega arith ]))

pub add_run-requires : goal.add_run-requires
unfolding packet_length
add_run-requires c =
    let s = c in
    simp length-take (omega (arith, c.shift_in-shift.ensures, shift_rises s.args.encoding.now.node s.args.row s.args.encoding.now.g.d (omega arith) (omega arith) (omega arith)))

pub shape_of-letters : goal.shape_of-letters
shape_of-letters c = ap length c.add_run.ensures.letters ∙ simp length_added

pub returns : goal.returns
unfolding entry_start
returns c =
    let s = c in
    let upper : min s.args.row s.args.column ≤ s.args.encoding.now.g.k = elim c.if-g-column.branch [ then-g-column+else-g-row w ↦ omega arith | else-g-column w ↦ omega arith ] in
    let starts = s.requires.entry.4 in
    part_adds s.args.encoding.now.file.now (matrix xors s.args.encoding.now.g s.args.encoding.now.file.now s.args.row s.args.column) s.args.start s.args.encoding.now.g.l _ 0 _ _ _ _
    (omega (arith, starts, start_fits s.args.encoding.now.g s.args.encoding.now.known.group s.args.row s.args.column (omega arith) (omega arith) (omega arith) (omega arith) upper)) refl c.shift_in-shift.ensures
    (λ p.
    ap (λ m. letter 0 s.args.encoding.now.file.now m s.args.encoding.now.g.l p) starts
    ∙ entry_letter xors s.args.encoding.now.g s.args.encoding.now.file.now s.args.row s.args.column p upper)
    (seen_whole _ _ _ _ c.add_run.ensures.letters)
