-- `windows::add_at` meets its contract: the overlap starts at the run's first letter.
use mathlib.Core.Logic.{inl}
use Rattle.sequences.proofs.SeenRuns.{seen_nothing, seen_at_lem}
use native.Mathlib.Omega.{arith}
use Rattle.sequences.proofs.windows.add_at.Goals as goal

pub returns-then-into-ahead : goal.returns-then-into-ahead
returns-then-into-ahead c = seen_nothing _ 0 _ _ (λ q h. inl (omega arith))

pub returns : goal.returns
returns c =
    let s = c in
    seen_at_lem s.args.run.now s.args.into.now c.add_run.new.into s.args.ahead _ (omega arith) c.min-count.ensures
    c.add_run.ensures.letters
