-- `starts` meets its contract: after v turns the letters of the first v ranks are counted.
use mathlib.Core.Path.{◌≡◌}
use Prim.Native.Nat.{ℕ, ◌≤◌}
use lib.ListN.{length, get_or}
use Rattle.agreement.specs.Agreement.{letters_of}
use Rattle.present.proofs.starts.Given as goal

abbrev pub invariant-loop-v : goal.invariant-loop-v
invariant-loop-v l = (length l.starts ≡ 17) × (l.end ≡ letters_of l.g l.ids l.v) × ((i : ℕ) → i ≤ l.v → get_or l.starts i 0 ≡ letters_of l.g l.ids i)
