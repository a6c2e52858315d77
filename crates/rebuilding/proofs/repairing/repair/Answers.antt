-- `repairing::repair` meets its contract: refusals 1 to 4 come first.
use Rattle.group.proofs.Refusals.{handed_on, fine, passed_on}
use Rattle.rebuilding.specs.Calls.{repair_refusal}
use Rattle.rebuilding.proofs.RepairCalls.{helpers_of}
use Rattle.rebuilding.proofs.RepairCalls.{repair_refused}
use Rattle.rebuilding.proofs.repairing.repair.Goals as goal

pub repair_exact-requires : goal.repair_exact-requires
repair_exact-requires c = helpers_of _ _ _ (fine _ _ c.in_ok-check_helpers.was c.check_helpers.ensures)

pub returns-in_err-check_helpers : goal.returns-in_err-check_helpers
unfolding repair_refusal
returns-in_err-check_helpers c = rw (handed_on c.from_residual.result _ c.from_residual.ensures.1) (repair_refused _ _ _ _ _ (passed_on _ _ _ _ c.in_err-check_helpers.was c.check_helpers.ensures))
