-- `reporting::absent` meets its contract.
use mathlib.Core.Path.{refl}
use Rattle.ids.specs.Ids.{among}
use Rattle.sequences.specs.Lists.{run}
use Rattle.odd_report.specs.Standings.{standing_in, nodes_where}
use Rattle.odd_report.proofs.reporting.absent.Goals as goal

pub returns : goal.returns
unfolding nodes_where standing_in run among
returns c = refl
