-- `collecting::collect_piece` meets its contract: the piece is copied from where it stands in what its node handed in.
use native.Mathlib.Omega.{arith}
use mathlib.Core.Path.{refl}
use Rattle.shifts.specs.Rule.{t}
use Rattle.present.proofs.Present.{few_ids}
use Rattle.gathering.proofs.Gathering.{read_low, read_high, read_node, read_from, read_small, piece_fits, piece_laid}
use Rattle.matrix.proofs.Columns.{entry_fits}
use Rattle.gathering.proofs.collecting.collect_piece.Goals as goal

pub overflow_sub-node : goal.overflow_sub-node
overflow_sub-node c = read_low c.args.nodes.now.g c.args.nodes.now.ids.now c.args.nodes.now.packets.now c.args.without c.args.nodes.now.present c.args.v c.args.u c.requires.1 _ c.args.nodes.now.placed c.rank-rank.result c.rank-rank.ensures

pub offset_bounds-nodes-rank : goal.offset_bounds-nodes-rank
offset_bounds-nodes-rank c = omega (arith, read_high c.args.nodes.now.g c.args.nodes.now.ids.now c.args.nodes.now.packets.now c.args.without c.args.nodes.now.present c.args.v c.args.u c.requires.1 _ c.args.nodes.now.placed c.rank-rank.result c.rank-rank.ensures, few_ids _ _ c.args.nodes.now.present.chosen, c.args.nodes.now.present.chosen.group.n-high)

pub bounds-nodes-rank : goal.bounds-nodes-rank
bounds-nodes-rank c = omega (arith, read_low c.args.nodes.now.g c.args.nodes.now.ids.now c.args.nodes.now.packets.now c.args.without c.args.nodes.now.present c.args.v c.args.u c.requires.1 _ c.args.nodes.now.placed c.rank-rank.result c.rank-rank.ensures, read_high c.args.nodes.now.g c.args.nodes.now.ids.now c.args.nodes.now.packets.now c.args.without c.args.nodes.now.present c.args.v c.args.u c.requires.1 _ c.args.nodes.now.placed c.rank-rank.result c.rank-rank.ensures)

pub overflow_sub-start : goal.overflow_sub-start
overflow_sub-start c = read_low c.args.nodes.now.g c.args.nodes.now.ids.now c.args.nodes.now.packets.now c.args.without c.args.nodes.now.present c.args.v c.args.u c.requires.1 _ c.args.nodes.now.placed c.rank-rank.result c.rank-rank.ensures

pub offset_bounds-nodes-rank-2 : goal.offset_bounds-nodes-rank-2
offset_bounds-nodes-rank-2 c = omega (arith, read_high c.args.nodes.now.g c.args.nodes.now.ids.now c.args.nodes.now.packets.now c.args.without c.args.nodes.now.present c.args.v c.args.u c.requires.1 _ c.args.nodes.now.placed c.rank-rank.result c.rank-rank.ensures, few_ids _ _ c.args.nodes.now.present.chosen, c.args.nodes.now.present.chosen.group.n-high)

pub bounds-nodes-rank-2 : goal.bounds-nodes-rank-2
bounds-nodes-rank-2 c = omega (arith, c.args.nodes.now.placed.size, read_high c.args.nodes.now.g c.args.nodes.now.ids.now c.args.nodes.now.packets.now c.args.without c.args.nodes.now.present c.args.v c.args.u c.requires.1 _ c.args.nodes.now.placed c.rank-rank.result c.rank-rank.ensures, few_ids _ _ c.args.nodes.now.present.chosen, c.args.nodes.now.present.chosen.group.n-high)

pub invariant_of-packet_start : goal.invariant_of-packet_start
invariant_of-packet_start c = record { of = read_node c.args.nodes.now.g c.args.nodes.now.ids.now c.args.nodes.now.packets.now c.args.without c.args.nodes.now.present c.args.v c.args.u c.requires.1 _ c.args.nodes.now.placed c.rank-rank.result c.rank-rank.ensures }

pub packet_start-requires : goal.packet_start-requires
packet_start-requires c = (omega (arith, c.requires.1.row, c.requires.1.within), c.requires.1.column)

pub overflow_add-start : goal.overflow_add-start
overflow_add-start c = omega (arith, read_small c.args.nodes.now.g c.args.nodes.now.ids.now c.args.nodes.now.packets.now c.args.without c.args.nodes.now.present c.args.v c.args.u c.requires.1 _ c.args.nodes.now.placed c.rank-rank.result c.rank-rank.ensures c.packet_start.result (t _ _) c.packet_start.ensures refl)

pub shift-requires : goal.shift-requires
shift-requires c =
    let n = read_node c.args.nodes.now.g c.args.nodes.now.ids.now c.args.nodes.now.packets.now c.args.without c.args.nodes.now.present c.args.v c.args.u c.requires.1 _ c.args.nodes.now.placed c.rank-rank.result c.rank-rank.ensures in
    (n.low, omega (arith, n.high, c.args.nodes.now.present.chosen.group.n-high), c.requires.1.row, omega (arith, c.requires.1.upper, c.args.nodes.now.present.chosen.group.k-high, c.args.nodes.now.present.chosen.group.d_high, c.args.nodes.now.present.chosen.group.n-high))

pub overflow_add-from : goal.overflow_add-from
overflow_add-from c = omega (arith, read_small c.args.nodes.now.g c.args.nodes.now.ids.now c.args.nodes.now.packets.now c.args.without c.args.nodes.now.present c.args.v c.args.u c.requires.1 _ c.args.nodes.now.placed c.rank-rank.result c.rank-rank.ensures c.packet_start.result c.shift.result c.packet_start.ensures c.shift.ensures)

pub copy-requires : goal.copy-requires
copy-requires c = (omega (arith, read_from c.args.nodes.now.g c.args.nodes.now.ids.now c.args.nodes.now.packets.now c.args.without c.args.nodes.now.present c.args.v c.args.u c.requires.1 _ c.args.nodes.now.placed c.rank-rank.result c.rank-rank.ensures c.packet_start.result c.shift.result c.packet_start.ensures c.shift.ensures, piece_fits c.args.nodes.now.g c.args.nodes.now.ids.now c.args.nodes.now.packets.now c.args.without c.args.nodes.now.present c.args.v c.args.u c.requires.1), omega (arith, c.requires.0, c.requires.2, entry_fits c.args.nodes.now.g c.args.nodes.now.present.chosen.group c.args.v c.args.u (omega (arith, c.requires.1.row, c.requires.1.within)) c.requires.1.column c.requires.1.row (omega (arith, c.requires.1.within, c.requires.1.upper))))

pub returns : goal.returns
returns c = piece_laid c.args.nodes.now.g c.args.nodes.now.ids.now c.args.nodes.now.packets.now c.args.without c.args.nodes.now.present c.args.v c.args.u c.requires.1 _ _ _ _ (read_from c.args.nodes.now.g c.args.nodes.now.ids.now c.args.nodes.now.packets.now c.args.without c.args.nodes.now.present c.args.v c.args.u c.requires.1 _ c.args.nodes.now.placed c.rank-rank.result c.rank-rank.ensures c.packet_start.result c.shift.result c.packet_start.ensures c.shift.ensures) c.requires.2 c.copy.ensures
