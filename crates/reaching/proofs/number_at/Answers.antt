-- `reaching::number_at` meets its contract: it is the number of the place's refusal.
use mathlib.Core.Path.{ap, ◌∙◌}
use native.Mathlib.Omega.{arith}
use Rattle.group.specs.Answers.{refusal_number}
use Rattle.kinds.proofs.RowLaws.{size_small}
use Rattle.refusing.specs.Steps.Refusing.{refusal_at}
use Rattle.reaching.proofs.number_at.Goals as goal

pub refusal_at-requires : goal.refusal_at-requires
refusal_at-requires c = (omega (arith, c.head_size-front.ensures, size_small c.args.kind), omega arith)

pub returns : goal.returns
returns c =
    let a = c.args in
    c.refusal_number.ensures ∙ ap refusal_number (c.refusal_at.ensures ∙ ap (λ f. refusal_at f a.letters a.at) c.head_size-front.ensures)
