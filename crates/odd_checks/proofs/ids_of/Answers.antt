-- `ids_of` meets its contract: 1 and 2 come first.
use mathlib.Core.Path.{◌∙◌}
use Rattle.group.proofs.Refusals.{handed_on, passed_on, went_on}
use Rattle.odd_checks.specs.Refusals.{present_refusal}
use Rattle.odd_checks.proofs.Refusing.{as_many}
use Rattle.odd_checks.proofs.ids_of.Goals as goal

pub returns-in_err-group : goal.returns-in_err-group
unfolding present_refusal
returns-in_err-group c = rw (handed_on c.from_residual.result _ c.from_residual.ensures.1) (passed_on _ _ _ _ c.in_err-group.was c.group.ensures)

pub returns : goal.returns
unfolding present_refusal
returns c = went_on _ _ _ _ c.in_ok-group.was c.group.ensures (c.check.ensures ∙ as_many c.args.g c.args.ids.now)
