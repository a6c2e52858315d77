-- `c_answers::tell` meets its contract: a value is told, and a refusal leaves the lent number as it was.
use mathlib.Core.Path.{sym, ap, ◌∙◌}
use Rattle.group.specs.Answers.{number_of}
use Rattle.c_answers.proofs.Told.{value_told, kept}
use Rattle.c_answers.proofs.tell.Goals as goal

pub returns-in-Ok : goal.returns-in-Ok
returns-in-Ok c = (ap number_of (sym c.in-Ok.is), value_told _ _ _ c.in-Ok.is)

pub returns-in-Err : goal.returns-in-Err
returns-in-Err c = (c.refusal_number.ensures ∙ ap number_of (sym c.in-Err.is), kept _ _ _ c.in-Err.is)
