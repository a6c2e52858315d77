-- `strictly_falling` meets its contract: at i, the ids from the one before i on decide.
use mathlib.Core.Path.{◌≡◌, refl, sym, ◌∙◌}
use Prim.Native.Nat.{◌+◌, ◌-◌}
use Rattle.ids.proofs.Ids.{falling_next, falling_end}
use borrow.Author.Tests.{lt-ltb, le-ltb}
use native.Mathlib.Omega.{arith}
use Rattle.ids.proofs.strictly_falling.Goals as goal

pub returns-then-ids-i : goal.returns-then-ids-i
returns-then-ids-i c = sym (c.loop-i.invariant ∙ falling_next _ c.loop-i.i (omega arith) (omega arith) ∙ simp (le-ltb _ _ c.if-ids-i.true))

pub loop-i-preserved : goal.loop-i-preserved
loop-i-preserved c =
    let same : c.loop-i.i + 1 - 1 ≡ c.loop-i.i = omega arith in
    c.loop-i.invariant ∙ falling_next _ c.loop-i.i (omega arith) (omega arith) ∙ simp (lt-ltb _ _ c.if-ids-i.false, same)

pub returns : goal.returns
returns c = sym (c.loop-i.invariant ∙ falling_end _ (c.loop-i.i - 1) (omega arith))
