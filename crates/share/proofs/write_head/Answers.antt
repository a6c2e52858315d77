-- `share::write_head` meets its contract: a refusal of the node is passed on, and where there is none the lengths decide.
use Rattle.group.proofs.Refusals.{handed_on, fine, passed_on}
use Rattle.share.specs.Calls.{write_refusal}
use Rattle.share.proofs.Written.{write_refused, write_on}
use Rattle.share.proofs.write_head.Goals as goal

pub fitting-requires : goal.fitting-requires
fitting-requires c = fine _ _ c.in_ok-check.was c.check.ensures

pub returns-in_err-check : goal.returns-in_err-check
unfolding write_refusal
returns-in_err-check c = rw (handed_on c.from_residual.result _ c.from_residual.ensures.1) (write_refused _ _ _ _ _ (passed_on _ _ _ _ c.in_err-check.was c.check.ensures))

pub returns : goal.returns
unfolding write_refusal
returns c =
    let m = c in
    write_on _ _ _ _ _ _ _ (fine _ _ m.in_ok-check.was m.check.ensures) c.fitting.ensures
