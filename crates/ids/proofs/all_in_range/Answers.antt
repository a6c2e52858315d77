-- `all_in_range` meets its contract: after so many ids, what is left of them decides.
use mathlib.Core.Path.{◌≡◌, refl, sym, ap, ◌∙◌}
use Prim.Native.Nat.{◌≤◌}
use lib.ListN.{get_or}
use Rattle.ids.specs.Ids.{all_in_range}
use Rattle.ids.proofs.Ids.{all_next, none_left}
use Rattle.letters.proofs.Places.{both_no}
use borrow.Author.Tests.{le-leb, lt-leb}
use native.Mathlib.Omega.{arith}
use Rattle.ids.proofs.all_in_range.Goals as goal

pub returns-then-id-lt1 : goal.returns-then-id-lt1
returns-then-id-lt1 c = sym (c.loop-id.invariant ∙ all_next _ _ c.loop-id.id-index (omega arith) ∙ simp (lt-leb _ _ c.if-id-lt1.true))

pub returns-then-n-id : goal.returns-then-n-id
returns-then-n-id c = sym (c.loop-id.invariant ∙ all_next _ _ c.loop-id.id-index (omega arith) ∙ simp (lt-leb _ _ c.if-n-id.true, both_no))

pub loop-id-preserved : goal.loop-id-preserved
loop-id-preserved c =
    let some : 1 ≤ get_or c.args.ids.now c.loop-id.id-index 0 = omega arith in
    let most : get_or c.args.ids.now c.loop-id.id-index 0 ≤ c.args.n = omega arith in
    c.loop-id.invariant ∙ all_next _ _ c.loop-id.id-index (omega arith) ∙ simp (le-leb _ _ some, le-leb _ _ most)

pub returns : goal.returns
unfolding all_in_range
returns c = sym (c.loop-id.invariant ∙ ap (all_in_range _) (none_left _ c.loop-id.id-index (omega arith)))
