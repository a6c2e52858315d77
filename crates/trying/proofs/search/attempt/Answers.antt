-- `search::attempt` meets its contract: the pieces are collected, the file is recovered, and all are compared with it.
use Rattle.trying.proofs.Attempts.{kept_collected, tried_file}
use Rattle.trying.proofs.search.attempt.Goals as goal

pub recover-requires : goal.recover-requires
recover-requires c = kept_collected c.args.nodes.now.g c.args.nodes.now.ids.now c.args.nodes.now.packets.now c.args.without c.args.nodes.now.present _ _ c.collect.ensures c.ids-chosen.ensures

pub returns : goal.returns
returns c = (c.compare_all.ensures.0, tried_file c.args.nodes.now.g c.args.nodes.now.ids.now c.args.nodes.now.packets.now c.args.without c.args.nodes.now.present _ _ c.collect.ensures c.ids-chosen.ensures _ c.recover.ensures, c.compare_all.ensures.1)
