-- `searched` meets its contract: the search goes on behind what is stepped over, and the head stays as it is.
use mathlib.Core.Path.{sym, ap, ◌∙◌}
use native.Mathlib.Omega.{arith}
use Rattle.heads.specs.Heads.{heads}
use Rattle.arriving.proofs.PastHead.{searched_all, searched_some}
use Rattle.arriving.proofs.Arriving.searched.Goals as goal

pub first_wrong-requires : goal.first_wrong-requires
first_wrong-requires c =
    let s = c in (s.requires.1.near, s.requires.0.total ∙ ap heads.total (sym c.head_so_far-head.ensures))

pub returns-then-good-bytes : goal.returns-then-good-bytes
returns-then-good-bytes c =
    let s = c in
    searched_some s.args.self s.args.letters s.requires.0 s.args.bytes.now s.args.start _ s.requires.1 _ c.head_so_far-head.ensures c.first_wrong.ensures
    (λ all. omega arith) _ c.wrong_at.ensures

pub returns : goal.returns
returns c =
    let s = c in
    searched_all s.args.self s.args.letters s.requires.0 s.args.bytes.now s.args.start _ s.requires.1 _ c.head_so_far-head.ensures c.first_wrong.ensures
    (omega (arith, c.first_wrong.ensures.within)) _ c.state_with.ensures
