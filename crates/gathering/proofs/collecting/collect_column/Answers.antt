-- `collecting::collect_column` meets its contract: the first v pieces stand one after another.
use native.Mathlib.Omega.{arith}
use mathlib.Core.Path.{refl, sym, ap, ◌∙◌}
use Prim.Native.Nat.{◌+◌}
use Rattle.letters.proofs.Laying.{nothing_laid, laid_on, laid_until}
use Rattle.lengths.proofs.Sizes.{file_at_most}
use Rattle.matrix.proofs.Columns.{entry_fits}
use Rattle.gathering.proofs.Gathering.{column_entry, column_first, entry_next, entries_rise, column_last}
use Rattle.gathering.proofs.collecting.collect_column.Goals as goal

pub free_start-at-requires : goal.free_start-at-requires
free_start-at-requires c = column_entry c.args.nodes.now.g c.args.u _ 1 c.args.nodes.now.present.chosen.group c.requires.1 c.requires.2 refl (omega arith) (omega arith)

pub loop-v-init : goal.loop-v-init
loop-v-init c = (c.free_start-at.ensures.0, nothing_laid _ _ _ _ (omega (arith, c.free_start-at.ensures.0, column_first c.args.nodes.now.g c.args.u)))

pub collect_piece-requires : goal.collect_piece-requires
collect_piece-requires c =
    let l = c.loop-v in
    (l.invariant.1.same_length ∙ c.requires.0, column_entry c.args.nodes.now.g c.args.u _ (l.v + 1) c.args.nodes.now.present.chosen.group c.requires.1 c.requires.2 c.min-sequences.ensures (omega arith) (omega arith), l.invariant.0)

pub overflow_add-at : goal.overflow_add-at
overflow_add-at c =
    let l = c.loop-v in
    let f = column_entry c.args.nodes.now.g c.args.u _ (l.v + 1) c.args.nodes.now.present.chosen.group c.requires.1 c.requires.2 c.min-sequences.ensures (omega arith) (omega arith) in
    omega (arith, file_at_most c.args.nodes.now.g c.args.nodes.now.present.chosen.group, l.invariant.0, c.requires.0, entry_fits c.args.nodes.now.g c.args.nodes.now.present.chosen.group (l.v + 1) c.args.u c.requires.1 c.requires.2 (omega arith) (omega (arith, f.within, f.upper)))

pub loop-v-preserved : goal.loop-v-preserved
loop-v-preserved c =
    let l = c.loop-v in (
      ap (λ m. m + c.args.nodes.now.g.l) l.invariant.0 ∙ entry_next c.args.nodes.now.g (l.v + 1) c.args.u (omega arith),
      laid_on _ _ _ _ l.at _ _ (omega (arith, l.invariant.0, column_first c.args.nodes.now.g c.args.u, entries_rise c.args.nodes.now.g (l.v + 1) c.args.u (omega arith))) (omega arith) l.invariant.1 c.collect_piece.ensures,
    )

pub shape_of-file : goal.shape_of-file
shape_of-file c = c.loop-v.invariant.1.same_length

pub returns : goal.returns
returns c =
    let l = c.loop-v in
    laid_until _ _ _ _ _ _ (sym (l.invariant.0 ∙ column_last c.args.nodes.now.g l.v c.args.u c.args.nodes.now.present.chosen.group.k_low c.requires.1 (omega (arith, c.min-sequences.ensures)))) l.invariant.1
