-- `Run::of_run` meets its contract: by which of the two shifts is more, the first letters fall outside or the last.
use native.Mathlib.Omega.{arith}
use Rattle.counting.proofs.Taken.{first_outside, last_outside, terms_few}
use Rattle.counting.proofs.Run.of_run.Goals as goal

pub returns-then-moved-own : goal.returns-then-moved-own
returns-then-moved-own c =
    let a = c.args in
    let r = a.self.now in
    let own = c.shift_in-own.ensures in
    let moved = c.shift_in-moved.ensures in
    let e = first_outside r.buffer.now r.start r.n a.rows.now a.b a.a _ c.but_first.result (omega (arith, own, moved)) c.but_first.ensures in
    (e, omega (arith, e, terms_few r.buffer.now r.start r.n a.rows.now a.b a.a))

pub returns : goal.returns
returns c =
    let a = c.args in
    let r = a.self.now in
    let own = c.shift_in-own.ensures in
    let moved = c.shift_in-moved.ensures in
    let e = last_outside r.buffer.now r.start r.n a.rows.now a.b a.a _ c.but_last.result (omega (arith, own, moved)) c.but_last.ensures in
    (e, omega (arith, e, terms_few r.buffer.now r.start r.n a.rows.now a.b a.a))
