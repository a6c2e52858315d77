-- `kept::rank` meets its contract.
use mathlib.Core.Path.{sym}
use Rattle.agreement.proofs.Choices.{kept_before, kept_after}
use Rattle.gathering.proofs.kept.rank.Goals as goal

pub returns-then-v-without : goal.returns-then-v-without
returns-then-v-without c = sym (kept_before _ _ c.if-v-without.true)

pub returns : goal.returns
returns c = sym (kept_after _ _ c.if-v-without.false)
