-- `tables::exponents` meets its contract: after every turn one exponent more is there.
use mathlib.Core.Path.{◌≡◌}
use Prim.Native.Nat.{ℕ, ◌+◌, ◌<◌}
use lib.ListN.{length, get_or}
use Rattle.equation.specs.Rows.{shift_in}
use Rattle.rounds.proofs.tables.exponents.Given as goal

abbrev pub invariant-loop-b : goal.invariant-loop-b
invariant-loop-b l = (length l.exps ≡ 16) × ((i : ℕ) → i < l.b → get_or l.exps i 0 ≡ shift_in l.rows (i + 1) 2)
