-- `compare_next` meets its contract.
use native.Mathlib.Omega.{arith}
use mathlib.Core.Path.{sym, subst}
use Prim.Native.Nat.{◌≤◌, ◌+◌}
use Rattle.agreement.specs.Steps.Trying.{Compared}
use Rattle.present.proofs.Present.{few_ids, node_here}
use Rattle.comparing_nodes.proofs.Noting.{next_end, next_inside, next_long, next_noted, right_within}
use Rattle.comparing_nodes.specs.Steps.Noting.{wrong_nodes, wrong_rank, wrong_place}
use Rattle.comparing_nodes.proofs.compare_next.Goals as goal

pub bounds-nodes-ranks-2 : goal.bounds-nodes-ranks-2
bounds-nodes-ranks-2 c = omega (arith, c.args.nodes.now.placed.size, few_ids _ _ c.args.nodes.now.present.chosen, c.args.nodes.now.present.chosen.group.n-high)

pub bounds-nodes-ranks-3 : goal.bounds-nodes-ranks-3
bounds-nodes-ranks-3 c = omega (arith, c.args.nodes.now.placed.size, few_ids _ _ c.args.nodes.now.present.chosen, c.args.nodes.now.present.chosen.group.n-high)

pub slice_bounds-right_letters-count : goal.slice_bounds-right_letters-count
slice_bounds-right_letters-count c = omega (arith, next_end _ _ _ _ c.args.nodes.now.present c.args.nodes.now.placed c.args.ranks c.requires.next.1)

pub slice_bounds-right_letters-start : goal.slice_bounds-right_letters-start
slice_bounds-right_letters-start c = omega (arith, next_end _ _ _ _ c.args.nodes.now.present c.args.nodes.now.placed c.args.ranks c.requires.next.1)

pub slice_bounds-right_letters-end : goal.slice_bounds-right_letters-end
slice_bounds-right_letters-end c = next_inside c.args.nodes.now.g c.args.nodes.now.ids.now c.args.nodes.now.packets.now c.args.nodes.now.starts.now c.args.nodes.now.present c.args.nodes.now.placed c.args.ranks c.requires.next.1

pub right_letters-right-requires : goal.right_letters-right-requires
right_letters-right-requires c = record { node = node_here _ _ c.args.nodes.now.present.chosen _ c.requires.next.1; lengths = (c.requires.next.0, next_long c.args.nodes.now.g c.args.nodes.now.ids.now c.args.nodes.now.packets.now c.args.nodes.now.starts.now c.args.nodes.now.present c.args.nodes.now.placed c.args.ranks c.requires.next.1) }

pub overflow_sub-end : goal.overflow_sub-end
overflow_sub-end c = omega (arith, next_end c.args.nodes.now.g c.args.nodes.now.ids.now c.args.nodes.now.packets.now c.args.nodes.now.starts.now c.args.nodes.now.present c.args.nodes.now.placed c.args.ranks c.requires.next.1)

pub note-requires : goal.note-requires
note-requires c = right_within c.args.nodes.now.g c.args.nodes.now.ids.now c.args.nodes.now.packets.now c.args.nodes.now.starts.now c.args.nodes.now.present c.args.nodes.now.placed c.args.ranks c.requires.next.1 _ c.args.found c.requires.next.2 c.requires.before _ c.right_letters-right.ensures

pub returns : goal.returns
returns c = subst (λ r. (wrong_nodes r ≤ 2) × Compared c.args.nodes.now.g c.args.nodes.now.ids.now c.args.nodes.now.packets.now c.args.file.now (c.args.ranks + 1) (wrong_nodes r) (wrong_rank r) (wrong_place r)) (sym c.note.ensures) (next_noted c.args.nodes.now.g c.args.nodes.now.ids.now c.args.nodes.now.packets.now c.args.nodes.now.starts.now c.args.nodes.now.present c.args.nodes.now.placed c.args.ranks c.requires.next.1 _ c.args.found c.requires.next.2 c.requires.before _ c.right_letters-right.ensures)
