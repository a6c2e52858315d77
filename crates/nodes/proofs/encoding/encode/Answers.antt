-- `encoding::encode` meets its contract: refusals 1 to 3 come first.
use Rattle.group.proofs.InRange.{node_of}
use Rattle.group.proofs.Refusals.{handed_on, fine, passed_on}
use Rattle.nodes.specs.Calls.{encode_refusal}
use Rattle.group.proofs.Called.{call_refused}
use Rattle.nodes.proofs.encoding.encode.Goals as goal

pub invariant_of-encode_exact : goal.invariant_of-encode_exact
invariant_of-encode_exact c = record { of = node_of _ _ (fine _ _ c.in_ok-node.was c.node.ensures) }

pub returns-in_err-node : goal.returns-in_err-node
unfolding encode_refusal
returns-in_err-node c = rw (handed_on c.from_residual.result _ c.from_residual.ensures.1) (call_refused _ _ _ _ _ (passed_on _ _ _ _ c.in_err-node.was c.node.ensures))
