-- `lay_packet` meets its contract: the column's entries are runs of the file, and between the widest shift and L all of them have a letter.
use native.Mathlib.Omega.{arith}
use mathlib.Core.Path.{◌∙◌}
use Rattle.lengths.specs.Lengths.{packet_length}
use Rattle.sequences.proofs.FirstRuns.{first_runs, first_seen, first_holding}
use Rattle.matrix.proofs.Product.{packet_same}
use Rattle.laid_packets.proofs.Columns.{entry_runs, entries_seen, laid_packet}
use Rattle.laid_packets.proofs.lay_packet.Goals as goal

pub overflow_sub-encoding : goal.overflow_sub-encoding
unfolding packet_length
overflow_sub-encoding c = omega arith

pub invariant_of-runs : goal.invariant_of-runs
invariant_of-runs c =
    let runs = entry_runs c.args.encoding.now.g c.args.encoding.now.node c.args.column c.args.encoding.now.known (omega arith) (omega arith) c.args.encoding.now.file.now _ _ _ c.args.encoding.now.whole c.starts-starts.ensures c.requires.shifts c.rows_used-rows.ensures in
    record { runs = first_runs _ _ _ _ runs.inside.many _ runs }

pub lay_sum-requires : goal.lay_sum-requires
unfolding packet_length
lay_sum-requires c =
    let runs = entry_runs c.args.encoding.now.g c.args.encoding.now.node c.args.column c.args.encoding.now.known (omega arith) (omega arith) c.args.encoding.now.file.now _ _ _ c.args.encoding.now.whole c.starts-starts.ensures c.requires.shifts c.rows_used-rows.ensures in
    (first_seen _ _ _ c.args.encoding.now.g.l runs.inside.many _ _ _ (entries_seen c.args.encoding.now.g c.args.encoding.now.node c.args.column c.args.encoding.now.known (omega arith) (omega arith) c.args.encoding.now.file.now _ _ _ c.args.encoding.now.whole c.starts-starts.ensures c.requires.shifts c.rows_used-rows.ensures c.args.encoding.now.size (c.args.encoding.now.sized ∙ packet_same c.args.encoding.now.g c.args.encoding.now.node 1 c.args.column) (omega arith)), omega arith)

pub returns : goal.returns
returns c =
    let runs = entry_runs c.args.encoding.now.g c.args.encoding.now.node c.args.column c.args.encoding.now.known (omega arith) (omega arith) c.args.encoding.now.file.now _ _ _ c.args.encoding.now.whole c.starts-starts.ensures c.requires.shifts c.rows_used-rows.ensures in
    laid_packet c.args.encoding.now.g c.args.encoding.now.node c.args.column c.args.encoding.now.known (omega arith) (omega arith) c.args.encoding.now.file.now _ _ _ c.args.encoding.now.whole c.starts-starts.ensures c.requires.shifts c.rows_used-rows.ensures _ _ c.requires.letters
    (first_holding _ _ _ c.args.encoding.now.g.l runs.inside.many _ _ _ _ c.lay_sum.ensures)
