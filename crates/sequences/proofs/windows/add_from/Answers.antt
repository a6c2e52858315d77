-- `windows::add_from` meets its contract: the overlap starts at the window's first letter.
use mathlib.Core.Path.{refl}
use mathlib.Core.Logic.{inr}
use Rattle.sequences.proofs.SeenRuns.{seen_nothing, seen_window}
use native.Mathlib.Omega.{arith}
use Rattle.sequences.proofs.windows.add_from.Goals as goal

pub returns-then-run-behind : goal.returns-then-run-behind
returns-then-run-behind c = seen_nothing _ _ 0 _ (λ q h. inr (omega arith))

pub returns : goal.returns
returns c =
    let s = c in
    seen_window s.args.run.now s.args.into.now c.add_run.new.into s.args.behind _ _ (omega arith) c.min-count.ensures refl
    c.add_run.ensures.letters
