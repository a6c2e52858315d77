-- `moved_by` meets its contract: the rows hold the shifts, and these rise with the column.
use native.Mathlib.Omega.{arith}
use Rattle.column_runs.proofs.Moving.{shifts_rise, same_move}
use Rattle.column_runs.proofs.moved_by.Goals as goal

pub overflow_sub-result : goal.overflow_sub-result
overflow_sub-result c =
    let s = c in
    shifts_rise s.args.senders.now.g s.args.senders.now.ids.now s.args.senders.now.chosen s.args.w (omega arith) (omega arith) s.args.senders.now.rows.now s.args.senders.now.shifts s.args.u (omega arith) (omega arith) _ _ c.shift_in.ensures c.shift_in-2.ensures

pub returns : goal.returns
returns c =
    let s = c in
    same_move s.args.senders.now.g s.args.senders.now.ids.now s.args.senders.now.chosen s.args.w (omega arith) (omega arith) s.args.senders.now.rows.now s.args.senders.now.shifts s.args.u (omega arith) (omega arith) _ _ c.shift_in.ensures c.shift_in-2.ensures
