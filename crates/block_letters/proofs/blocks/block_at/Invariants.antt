-- `blocks::block_at` meets its contract: after i turns the first i bytes are taken.
use mathlib.Core.Path.{◌≡◌}
use Prim.Native.Nat.{ℕ, ◌+◌, ◌<◌}
use lib.ListN.{length, get_or}
use Rattle.records.specs.Records.{block_letters}
use Rattle.block_letters.proofs.blocks.block_at.Given as goal

abbrev pub invariant-loop-i : goal.invariant-loop-i
invariant-loop-i l = (length l.block ≡ block_letters) × ((j : ℕ) → j < l.i → get_or l.block j 0 ≡ get_or l.from (l.start + j) 0)
