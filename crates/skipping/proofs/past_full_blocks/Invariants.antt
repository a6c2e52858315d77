-- Every block passed has its kind.
use Rattle.std.proofs.Common.{◌≡◌, ℕ, ◌+◌, ◌*◌, ◌<◌, get_or}
use Rattle.records.specs.Records.{kind_full, block_size}
use Rattle.skipping.proofs.past_full_blocks.Given as goal

abbrev pub invariant-loop-count : goal.invariant-loop-count
invariant-loop-count l = (q : ℕ) → q < l.count → get_or l.share (l.start + q * block_size) 0 ≡ kind_full
