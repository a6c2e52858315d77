-- `Begun::next_stands` meets its contract: the search passes a byte exactly if it stands.
use mathlib.Core.Path.{subst}
use mathlib.Core.List.{[], ◌∷◌}
use Rattle.searching.specs.Steps.Search.{StopsFrom}
use Rattle.reaching.proofs.Near.{near, passes_one}
use Rattle.reaching.proofs.Begun.next_stands.Goals as goal

pub first_wrong-requires : goal.first_wrong-requires
first_wrong-requires c =
    let s = c in (near _ _ s.args.self.numbers, c.total.ensures)

pub returns : goal.returns
returns c =
    let s = c.args in
    passes_one s.self.at _ s.byte c.first_wrong.result
    (subst (λ g. StopsFrom s.self.at g (s.byte ∷ []) c.first_wrong.result) c.head_with-with.ensures c.first_wrong.ensures)
