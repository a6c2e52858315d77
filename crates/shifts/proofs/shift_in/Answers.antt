-- `shifts::shift_in` meets its contract: the table has the shift at the index that is computed.
use native.Mathlib.Omega.{arith}
use mir.Facts.{Fits-8_64}
use Rattle.shifts.proofs.shift_in.Goals as goal

pub overflow_cast-result : goal.overflow_cast-result
overflow_cast-result c = Fits-8_64 (c.type_inv.table _)

pub returns : goal.returns
returns c =
    let s = c in
    s.requires.table.shifts s.args.node s.args.column (omega arith) (omega arith) (omega arith) (omega arith)
