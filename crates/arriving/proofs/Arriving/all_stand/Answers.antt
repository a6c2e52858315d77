-- `all_stand` meets its contract: the bytes of a share, or of the beginning of one, all stand.
use mathlib.Core.Path.{sym, subst}
use Rattle.std.specs.Prelude.{Err}
use Rattle.judging.specs.Judging.{outcome_of}
use Rattle.arriving.specs.Calls.{JudgesState, Announces, coming_of}
use Rattle.arriving.proofs.Telling.{share_stands, beginning_stands}
use Rattle.arriving.proofs.Arriving.all_stand.Goals as goal

pub returns-in-Ok : goal.returns-in-Ok
returns-in-Ok c = share_stands c.args.self _ c.in-Ok.ensures

pub returns-in-Refused : goal.returns-in-Refused
returns-in-Refused c = beginning_stands c.args.self _ (subst (λ f. JudgesState c.args.self (outcome_of (Err f))) c.in-Refused.is c.in-Err.ensures)

pub returns-in-Malformed : goal.returns-in-Malformed
returns-in-Malformed c =
    subst (λ f. Announces c.args.self (coming_of (Err f))) (sym c.in-Malformed.is)
    (Announces.malformed _ _ (subst (λ f. JudgesState c.args.self (outcome_of (Err f))) c.in-Malformed.is c.in-Err.ensures))
