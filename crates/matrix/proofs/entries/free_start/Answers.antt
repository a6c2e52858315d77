-- `entries::free_start` meets its contract: entry (v,u) is sequence before(u) + v.
use native.Mathlib.Omega.{arith}
use mathlib.Core.Path.{ap}
use Prim.Native.Nat.{◌+◌, ◌-◌, ◌*◌}
use Rattle.matrix.specs.Matrix.{entry_number}
use Rattle.matrix.proofs.Columns.{entry_fits}
use Rattle.matrix.proofs.entries.free_start.Goals as goal

pub returns : goal.returns
unfolding entry_number
returns c =
    let a = c.args in
    let same = ap (λ m. (m + a.row - 1) * a.g.l) c.sequences_before.ensures.0 in
    (same, omega (arith, same, entry_fits a.g c.requires.group a.row a.column (omega arith) (omega arith) (omega arith) (omega arith)))
