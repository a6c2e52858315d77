-- `dulvaspen_arriving_start` meets its contract: the state of no bytes is put, if there is room for it.
use mathlib.Core.Path.{sym, ap, subst, ◌∙◌}
use Rattle.c_state.specs.Words.{nine}
use Rattle.c_arriving.specs.Arrivals.{StartsWords}
use Rattle.c_arriving.proofs.dulvaspen_arriving_start.Goals as goal

pub returns-then-state-ne-WORDS : goal.returns-then-state-ne-WORDS
returns-then-state-ne-WORDS c = StartsWords.unfit c.if-state-ne-WORDS.true

pub returns : goal.returns
returns c = subst (StartsWords c.args.state.now 0) (sym (c.put_state.ensures ∙ ap nine c.start.ensures)) (StartsWords.started c.if-state-ne-WORDS.false)
