-- Each turn leaves one low byte out, and one byte of room.
use Rattle.std.proofs.Common.{◌↔◌, ◌-◌, ◌^◌, ◌<◌}
use Rattle.records.proofs.numbers.has_room.Given as goal

abbrev pub invariant-loop : goal.invariant-loop
invariant-loop l = (l.x < 256 ^ l.size) ↔ (l.rest < 256 ^ (l.size - l.counter))
