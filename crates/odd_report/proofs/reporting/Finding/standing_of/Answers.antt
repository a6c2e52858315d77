-- `Finding::standing_of` meets its contract.
use mathlib.Core.Path.{sym, ◌∙◌}
use Rattle.odd_report.proofs.Standings.{in_present, in_absent}
use Rattle.odd_report.proofs.reporting.Finding.standing_of.Goals as goal

pub returns-then-is_among : goal.returns-then-is_among
returns-then-is_among c = c.standing.ensures ∙ sym (in_present _ _ _ (sym c.is_among.ensures ∙ c.if-is_among.true))

pub returns : goal.returns
returns c = sym (in_absent _ _ _ (sym c.is_among.ensures ∙ c.if-is_among.false))
