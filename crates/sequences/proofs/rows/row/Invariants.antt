-- `rows::row` meets its contract: after every turn one shift more stands in the row.
use mathlib.Core.Path.{◌≡◌}
use Prim.Native.Nat.{ℕ, ◌+◌, ◌<◌}
use lib.ListN.{length, get_or}
use Rattle.sequences.proofs.rows.row.Given as goal

abbrev pub invariant-loop-j : goal.invariant-loop-j
invariant-loop-j g l = (length l.row ≡ 16) × ((i : ℕ) → i < l.j → get_or l.row i 0 ≡ g.R.Rule.shift l.node (i + 1))
