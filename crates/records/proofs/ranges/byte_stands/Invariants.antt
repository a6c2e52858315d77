-- Each turn leaves one low byte out, and goes on with the range of what is left.
use Rattle.std.proofs.Common.{◌≡◌, ℕ, true, ◌-◌, ◌^◌, ◌≤◌, ◌<◌, get_or}
use Rattle.records.specs.Steps.Ranges.{range_tests}
use Rattle.records.proofs.ranges.byte_stands.Given as goal

abbrev pub invariant-loop : goal.invariant-loop
invariant-loop l =
    (l.lo ≤ 2 ^ 32)
    × ((size : ℕ) → l.nth < size → get_or (range_tests size l.least l.most l.x) l.nth true ≡ get_or (range_tests (size - l.counter) l.lo l.hi l.rest) (l.nth - l.counter) true)
