-- Which letters of a run read a sequence depends on nothing but the difference of `reach` and `moved`.
use mathlib.Core.Path.{◌≡◌}
use Prim.Native.Nat.{ℕ, ◌+◌}
use native.Mathlib.Omega.{arith}
use Rattle.spans.specs.Steps.Spans.{Reads}

pub reads_same :
    (reach moved reach' moved' top count skip place len : ℕ) → reach + moved' ≡ reach' + moved
    → Reads reach moved top count skip place len → Reads reach' moved' top count skip place len
reads_same reach moved reach' moved' top count skip place len e r =
    record {
      inside = r.inside;
      below = λ h. let z = r.below h in omega arith;
      from_one = r.from_one;
      up_to = r.up_to;
      here = λ h. let z = r.here h in omega arith;
      above = λ h. let z = r.above h in omega arith;
    }
