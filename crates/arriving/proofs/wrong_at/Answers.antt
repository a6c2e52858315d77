-- `wrong_at` meets its contract: the state has the number of the place.
use mathlib.Core.Path.{ap, ◌∙◌}
use native.Mathlib.Omega.{arith}
use Rattle.heads.proofs.HeadLaws.{total_small}
use Rattle.reaching.specs.Numbers.{number_at}
use Rattle.arriving.specs.States.{state_with}
use Rattle.arriving.proofs.wrong_at.Goals as goal

pub number_at-requires : goal.number_at-requires
number_at-requires c = omega (arith, c.total.ensures, total_small c.args.head)

pub returns : goal.returns
returns c =
    let s = c.args in
    c.state_with.ensures
    ∙ ap (λ n. state_with s.at n s.head) (c.number_at.ensures ∙ ap (λ t. number_at s.head.kind t s.at) c.total.ensures)
