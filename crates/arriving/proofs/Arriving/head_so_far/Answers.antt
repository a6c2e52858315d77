-- `head_so_far` meets its contract: the numbers are put together.
use mathlib.Core.Path.{ap}
use Rattle.arriving.proofs.Arriving.head_so_far.Goals as goal

pub returns : goal.returns
returns c =
    let a = c.args.self in ap (λ g. record { group = g; node = a.node; batch = a.batch; kind = a.kind }) c.of-group.ensures
