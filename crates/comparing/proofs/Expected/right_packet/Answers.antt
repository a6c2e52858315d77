-- `Expected::right_packet` meets its contract: the column's entries are runs of the file, and what is seen of them is the packet.
use native.Mathlib.Omega.{arith}
use mathlib.Core.Path.{◌∙◌}
use Rattle.lengths.specs.Lengths.{packet_length}
use Rattle.lengths.proofs.Sizes.{node_at_most, packet_fits}
use Rattle.sequences.proofs.FirstRuns.{first_runs, first_seen}
use Rattle.matrix.proofs.Product.{packet_same}
use Rattle.laid_packets.proofs.Columns.{entry_runs, entries_seen}
use Rattle.comparing.proofs.Packets.{packet_compared}
use Rattle.comparing.proofs.Expected.right_packet.Goals as goal

pub overflow_sub-widest : goal.overflow_sub-widest
unfolding packet_length
overflow_sub-widest c = omega arith

pub invariant_of-runs : goal.invariant_of-runs
invariant_of-runs c =
    let runs = entry_runs c.args.self.now.encoding.now.g c.args.self.now.encoding.now.node c.args.column c.args.self.now.encoding.now.known (omega arith) (omega arith) c.args.self.now.encoding.now.file.now _ _ _ c.args.self.now.encoding.now.whole c.starts-starts.ensures c.args.self.now.row c.rows_used-rows.ensures in
    record { runs = first_runs _ _ _ _ runs.inside.many _ runs }

pub invariant_of-runs-2 : goal.invariant_of-runs-2
invariant_of-runs-2 c =
    let runs = entry_runs c.args.self.now.encoding.now.g c.args.self.now.encoding.now.node c.args.column c.args.self.now.encoding.now.known (omega arith) (omega arith) c.args.self.now.encoding.now.file.now _ _ _ c.args.self.now.encoding.now.whole c.starts-starts.ensures c.args.self.now.row c.rows_used-rows.ensures in
    record { runs = first_runs _ _ _ _ runs.inside.many _ runs }

pub overflow_add-widest : goal.overflow_add-widest
overflow_add-widest c =
    let e = c.args.self.now.encoding.now in
    omega (arith, node_at_most e.g e.node e.known, packet_fits e.g e.node e.known 1 (omega arith) (omega arith))

pub seen-requires : goal.seen-requires
seen-requires c = omega (arith, c.requires.held, node_at_most c.args.self.now.encoding.now.g c.args.self.now.encoding.now.node c.args.self.now.encoding.now.known, packet_fits c.args.self.now.encoding.now.g c.args.self.now.encoding.now.node c.args.self.now.encoding.now.known c.args.column (omega arith) (omega arith))

pub returns-then-g-widest : goal.returns-then-g-widest
returns-then-g-widest c = packet_compared c.args.self.now.encoding.now.g c.args.self.now.encoding.now.node c.args.column c.args.self.now.encoding.now.known (omega arith) (omega arith) c.args.self.now.encoding.now.file.now _ _ _ c.args.self.now.encoding.now.whole c.starts-starts.ensures c.args.self.now.row c.rows_used-rows.ensures _ _ c.requires.held c.seen.ensures

pub same-requires : goal.same-requires
unfolding packet_length
same-requires c =
    let runs = entry_runs c.args.self.now.encoding.now.g c.args.self.now.encoding.now.node c.args.column c.args.self.now.encoding.now.known (omega arith) (omega arith) c.args.self.now.encoding.now.file.now _ _ _ c.args.self.now.encoding.now.whole c.starts-starts.ensures c.args.self.now.row c.rows_used-rows.ensures in
    let sized = c.args.self.now.encoding.now.sized ∙ packet_same c.args.self.now.encoding.now.g c.args.self.now.encoding.now.node 1 c.args.column in
    (first_seen _ _ _ c.args.self.now.encoding.now.g.l runs.inside.many _ _ _ (entries_seen c.args.self.now.encoding.now.g c.args.self.now.encoding.now.node c.args.column c.args.self.now.encoding.now.known (omega arith) (omega arith) c.args.self.now.encoding.now.file.now _ _ _ c.args.self.now.encoding.now.whole c.starts-starts.ensures c.args.self.now.row c.rows_used-rows.ensures c.args.self.now.encoding.now.size sized (omega (arith, sized))), omega arith, omega (arith, c.requires.held, node_at_most c.args.self.now.encoding.now.g c.args.self.now.encoding.now.node c.args.self.now.encoding.now.known, packet_fits c.args.self.now.encoding.now.g c.args.self.now.encoding.now.node c.args.self.now.encoding.now.known c.args.column (omega arith) (omega arith)))

pub returns : goal.returns
returns c = packet_compared c.args.self.now.encoding.now.g c.args.self.now.encoding.now.node c.args.column c.args.self.now.encoding.now.known (omega arith) (omega arith) c.args.self.now.encoding.now.file.now _ _ _ c.args.self.now.encoding.now.whole c.starts-starts.ensures c.args.self.now.row c.rows_used-rows.ensures _ _ c.requires.held c.same.ensures
