-- `lay_packets` meets its contract: the packets are runs of what the helper holds.
use Rattle.sequences.proofs.FirstRuns.{first_runs, first_seen, first_holding}
use Rattle.helper_sums.proofs.HeldRuns.{packet_runs, packets_seen, laid_piece}
use Rattle.helper_sums.proofs.Helping.lay_packets.Goals as goal

pub invariant_of-runs : goal.invariant_of-runs
invariant_of-runs c =
    let runs = packet_runs c.args.self.now.g c.args.self.now.lost c.args.self.now.helper c.args.self.now.rank c.args.self.now.size c.args.self.now.nodes c.args.self.now.packets.now _ _ c.args.self.now.sized c.args.self.now.held c.packet_starts-starts.ensures c.row-leads.ensures in
    record { runs = first_runs _ _ _ _ runs.inside.many _ runs }

pub lay_sum-requires : goal.lay_sum-requires
lay_sum-requires c =
    let runs = packet_runs c.args.self.now.g c.args.self.now.lost c.args.self.now.helper c.args.self.now.rank c.args.self.now.size c.args.self.now.nodes c.args.self.now.packets.now _ _ c.args.self.now.sized c.args.self.now.held c.packet_starts-starts.ensures c.row-leads.ensures in
    (first_seen _ _ _ c.args.self.now.size runs.inside.many _ _ _ (packets_seen c.args.self.now.g c.args.self.now.lost c.args.self.now.helper c.args.self.now.rank c.args.self.now.size c.args.self.now.nodes c.args.self.now.packets.now _ _ c.args.self.now.sized c.args.self.now.held c.packet_starts-starts.ensures c.row-leads.ensures _ _ _ _ c.skip.ensures c.requires.middle), c.requires.middle.ends)

pub returns : goal.returns
returns c =
    let runs = packet_runs c.args.self.now.g c.args.self.now.lost c.args.self.now.helper c.args.self.now.rank c.args.self.now.size c.args.self.now.nodes c.args.self.now.packets.now _ _ c.args.self.now.sized c.args.self.now.held c.packet_starts-starts.ensures c.row-leads.ensures in
    laid_piece c.args.self.now.g c.args.self.now.lost c.args.self.now.helper c.args.self.now.rank c.args.self.now.size c.args.self.now.nodes c.args.self.now.packets.now _ _ c.args.self.now.sized c.args.self.now.held c.packet_starts-starts.ensures c.row-leads.ensures _ _ _ c.skip.ensures c.requires.room
    (first_holding _ _ _ c.args.self.now.size runs.inside.many _ _ _ _ c.lay_sum.ensures)
