-- From the highest byte down, each turn puts one byte more in front.
use Rattle.std.proofs.Common.{◌≡◌, ◌+◌, ◌-◌, ◌^◌, ◌≤◌, ◌<◌}
use Rattle.records.specs.Records.{number_in}
use Rattle.records.proofs.numbers.number_in.Given as goal

abbrev pub invariant-loop-i : goal.invariant-loop-i
invariant-loop-i l = (l.i ≤ l.size) × (l.x ≡ number_in (l.size - l.i) (l.start + l.i) l.share) × (l.x < 256 ^ (l.size - l.i))
