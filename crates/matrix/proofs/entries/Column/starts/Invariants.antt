-- `Column::starts` meets its contract: after every turn one start more stands in the list, and `start` is the next one.
use mathlib.Core.Path.{◌≡◌}
use Prim.Native.Nat.{ℕ, ◌+◌, ◌<◌}
use lib.ListN.{length, get_or}
use Rattle.matrix.specs.Matrix.{entry_start}
use Rattle.matrix.proofs.entries.Column.starts.Given as goal

abbrev pub invariant-loop-row : goal.invariant-loop-row
invariant-loop-row l = (length l.starts ≡ 16) × (l.start ≡ entry_start l.self.g (l.row + 1) l.self.column) × ((i : ℕ) → i < l.row → get_or l.starts i 0 ≡ entry_start l.self.g (i + 1) l.self.column)
