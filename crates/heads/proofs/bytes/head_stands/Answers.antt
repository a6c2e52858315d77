-- `bytes::head_stands` meets its contract: the arms are the tests of the definition's list, with the row's own ranges.
use mathlib.Core.Path.{◌≡◌, sym, ap, ◌∙◌}
use mathlib.Core.Bool.{true}
use Prim.Native.Nat.{◌+◌, ◌-◌}
use native.Mathlib.Omega.{arith}
use lib.ListN.{get_or}
use Rattle.group.specs.Ranges.{between}
use Rattle.kinds.specs.declared.Limits.{Limits}
use Rattle.heads.specs.Heads.{head_tests}
use Rattle.heads.proofs.HeadLaws.{length_test_lem}
use Rattle.heads.proofs.bytes.head_stands.Goals as goal

pub returns-in-0 : goal.returns-in-0
returns-in-0 c = rw c.in-0.is c.is_kind.ensures

pub returns-in-1 : goal.returns-in-1
returns-in-1 c = rw c.in-1.is c.is_between.ensures

pub returns-in-2 : goal.returns-in-2
returns-in-2 c = rw c.in-2.is (c.is_between-in-2.ensures ∙ ap (λ (r : Limits). between 2 r.most_k c.args.head.group.k) c.limits_of-row.ensures)

pub returns-in-3 : goal.returns-in-3
returns-in-3 c = rw c.in-3.is (c.is_between-in-3.ensures ∙ ap (λ (r : Limits). between r.least_d r.most_d c.args.head.group.d) c.limits_of-row.ensures)

pub returns-in-4 : goal.returns-in-4
returns-in-4 c = rw c.in-4.is c.is_between-in-4.ensures

pub returns-in_default : goal.returns-in_default
returns-in_default c =
    let a = c.args in
    let e : 5 + (a.offset - 5) ≡ a.offset = omega arith in
    c.length_stands.ensures
    ∙ sym (length_test_lem a.head (a.offset - 5))
    ∙ ap (λ i. get_or (head_tests a.head) i true) e
