-- `collecting::collect` meets its contract: the first u columns stand one after another.
use native.Mathlib.Omega.{arith}
use mathlib.Core.Path.{◌∙◌}
use Prim.Native.Nat.{◌+◌}
use Rattle.letters.proofs.Laying.{nothing_laid, laid_on}
use Rattle.gathering.proofs.Gathering.{columns_first, columns_rise, columns_last, all_collected}
use Rattle.gathering.proofs.collecting.collect.Goals as goal

pub loop-u-init : goal.loop-u-init
loop-u-init c = nothing_laid _ _ _ _ (omega (arith, columns_first c.args.nodes.now.g c.args.nodes.now.present.chosen.group))

pub collect_column-requires : goal.collect_column-requires
collect_column-requires c = (c.loop-u.invariant.same_length ∙ c.requires, omega arith, omega arith)

pub loop-u-preserved : goal.loop-u-preserved
loop-u-preserved c =
    let l = c.loop-u in
    laid_on _ _ _ _ _ _ _ (omega arith) (columns_rise c.args.nodes.now.g (l.u + 1) c.args.nodes.now.present.chosen.group (omega arith)) l.invariant c.collect_column.ensures

pub shape_of-file : goal.shape_of-file
shape_of-file c = c.loop-u.invariant.same_length

pub returns : goal.returns
returns c =
    let l = c.loop-u in
    all_collected c.args.nodes.now.g c.args.nodes.now.ids.now c.args.nodes.now.packets.now c.args.without c.args.nodes.now.present _ _ _ c.requires (columns_last c.args.nodes.now.g l.u c.args.nodes.now.present.chosen.group (omega arith)) l.invariant
