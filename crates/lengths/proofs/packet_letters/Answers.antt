-- `group::packet_letters` meets its contract: a refusal is passed on, and where there is none the group is in range.
use Rattle.group.proofs.InRange.{node_of}
use Rattle.group.proofs.Refusals.{handed_on, stopped, fine, refuses, gives}
use Rattle.lengths.proofs.packet_letters.Goals as goal

pub invariant_of-letters : goal.invariant_of-letters
invariant_of-letters c =
    let s = c in
    record { of = node_of _ _ (fine _ _ c.in_ok-node.was s.node.ensures) }

pub returns-in_err-node : goal.returns-in_err-node
returns-in_err-node c = rw (handed_on c.from_residual.result _ c.from_residual.ensures.1) (refuses _ _ _ (stopped _ _ _ c.in_err-node.was c.node.ensures))

pub returns : goal.returns
returns c = gives _ _ _ (fine _ _ c.in_ok-node.was c.node.ensures) c.letters.ensures
