-- `repairing::check_apart` meets its contract.
use mathlib.Core.Path.{sym, ap, ◌∙◌}
use mathlib.Core.Bool.{not}
use Rattle.group.specs.Answers.{unless}
use Rattle.rebuilding.specs.Calls.{apart_refusal}
use Rattle.rebuilding.proofs.repairing.check_apart.Goals as goal

pub returns-then-is_among : goal.returns-then-is_among
unfolding apart_refusal
returns-then-is_among c = ap (λ b. unless (not b) 4) (sym c.if-is_among.true ∙ c.is_among.ensures)

pub returns : goal.returns
unfolding apart_refusal
returns c = ap (λ b. unless (not b) 4) (sym c.if-is_among.false ∙ c.is_among.ensures)
