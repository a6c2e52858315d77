-- `rows::of` meets its contract: after i turns the first i shifts stand in their places.
use mathlib.Core.Path.{◌≡◌}
use Prim.Native.Nat.{ℕ, ◌+◌, ◌/◌, ◌%◌, ◌<◌}
use lib.ListN.{length, get_or}
use Rattle.sequences.proofs.rows.of.Given as goal

abbrev pub invariant-loop-i : goal.invariant-loop-i
invariant-loop-i g l = (length l.rows ≡ 256) × ((j : ℕ) → j < l.i → get_or l.rows j 0 ≡ g.R.Rule.shift (get_or l.ids (j / 16) 0) (j % 16 + 1))
