-- Each turn leaves one low byte out, and one byte of room.
use Rattle.std.proofs.Common.{◌≡◌, ℕ, ◌+◌, ◌-◌, ◌/◌, ◌^◌, ◌<◌, ◌↔◌, arith}
use Rattle.records.proofs.NumberBytes.{room_more}
use Rattle.records.proofs.numbers.has_room.Goals as goal

next : (size i rest : ℕ) → i < size → (rest < 256 ^ (size - i)) ↔ (rest / 256 < 256 ^ (size - (i + 1)))
next size i rest l =
    let e : size - (i + 1) ≡ size - i - 1 = omega arith in
    rw e (room_more (size - i) rest (omega arith))

pub loop-preserved : goal.loop-preserved
loop-preserved c =
    let before = c.loop.invariant in
    let n = next c.args.size c.loop.counter c.loop.rest (omega arith) in
    (λ h. n.0 (before.0 h), λ h. before.1 (n.1 h))
