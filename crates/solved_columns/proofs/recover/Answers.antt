-- `recover` meets its contract: all columns are done.
use native.Mathlib.Omega.{arith}
use mathlib.Core.Path.{◌∙◌}
use Rattle.matrix.proofs.ChosenRanks.{known}
use Rattle.solved_columns.proofs.Stages.{stage_end}
use Rattle.solved_columns.proofs.recover.Goals as goal

pub of-requires : goal.of-requires
of-requires c = known _ _ _ c.requires.chosen (omega arith)

pub invariant_of-senders : goal.invariant_of-senders
invariant_of-senders c = record { chosen = c.requires.chosen; shifts = c.of.ensures }

pub returns : goal.returns
returns c = (c.recover_columns.ensures.same_length ∙ c.requires.long, stage_end _ _ _ _ c.requires c.recover_columns.ensures)
