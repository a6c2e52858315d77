-- `is_among` meets its contract: the list's own search answers it.
use Rattle.ids.proofs.Ids.{among_from}
use Rattle.ids.proofs.is_among.Goals as goal

pub returns : goal.returns
returns c = among_from _ _ _ c.contains.ensures.cases
