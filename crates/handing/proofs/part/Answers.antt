-- `part` meets its contract: the part starts at the index that is answered, or is empty.
use native.Mathlib.Omega.{arith}
use mathlib.Core.Path.{◌≡◌, refl, sym, ap, ap₂, ◌∙◌}
use Prim.Native.Nat.{ℕ, ◌+◌, ◌-◌}
use lib.ListN.{take, drop}
use Rattle.group.specs.Answers.{number_of, value_of}
use Rattle.group.proofs.Refusals.{never_zero, if_refused, if_fine_lem}
use borrow.Rule.Slice.Shared.{by_byte}
use Rattle.handing.proofs.Handed.{within_value}
use Rattle.handing.proofs.part.Goals as goal

-- the part's end less its start
whole : (a n : ℕ) → a + n - a ≡ n
whole a n = omega arith

-- a part's offset is the slice's and its start
from_start : (o a b : ℕ) → a ≡ b → by_byte a o ≡ o + b
from_start o a b e = omega arith

pub overflow_add-end : goal.overflow_add-end
overflow_add-end c = omega (arith, within_value _ _ _ _ c.in-Ok.is c.requires)

pub slice_bounds-result-end-in-Ok : goal.slice_bounds-result-end-in-Ok
slice_bounds-result-end-in-Ok c = omega (arith, within_value _ _ _ _ c.in-Ok.is c.requires)

pub returns-in-Err : goal.returns-in-Err
returns-in-Err c =
    let told = ap number_of c.in-Err.is in
    let r = c.in-Err.field-0 in
    record {
      letters = sym (if_refused _ _ _ (λ z. never_zero r (sym told ∙ z)));
      block = refl;
      offset = from_start c.args.lent.ref_ptr.1 0 _ (sym (if_refused _ _ _ (λ z. never_zero r (sym told ∙ z))));
    }

pub returns-in-Ok : goal.returns-in-Ok
returns-in-Ok c =
    let s = c in
    let start = c.in-Ok.from in
    let told = ap number_of c.in-Ok.is in
    let is = ap value_of c.in-Ok.is in
    record {
      letters =
          ap₂ (λ n m. take n (drop m s.args.lent.now)) (whole start s.args.count) (sym is)
          ∙ sym (if_fine_lem _ _ _ told);
      block = refl;
      offset = from_start s.args.lent.ref_ptr.1 start _ (sym is ∙ sym (if_fine_lem _ _ _ told));
    }
