-- `entries::sequences_before` meets its contract: it computes what the definition says, and the numbers are small.
use native.Mathlib.Omega.{arith}
use mathlib.Core.Path.{sym}
use Prim.Native.Nat.{◌+◌, ◌-◌}
use native.Mathlib.Nat.{mul-le-mul}
use Rattle.matrix.proofs.Columns.{before_low, before_high}
use Rattle.matrix.proofs.entries.sequences_before.Goals as goal

pub returns-then-column-k : goal.returns-then-column-k
returns-then-column-k c =
    let a = c.args in
    (sym (before_low a.k a.column (omega arith)), omega (arith, mul-le-mul {n₁ = a.column} {m₁ = a.column - 1} {n₂ = 16} {m₂ = 16} (omega arith) (omega arith)))

pub returns : goal.returns
returns c =
    let a = c.args in
    (sym (before_high a.k a.column (omega arith)), omega (arith, mul-le-mul {n₁ = a.k} {m₁ = a.k + 1} {n₂ = 15} {m₂ = 16} (omega arith) (omega arith), mul-le-mul {n₁ = a.column - a.k - 1} {m₁ = a.k} {n₂ = 16} {m₂ = 15} (omega arith) (omega arith)))
