-- `checks::one_of` meets its contract: the test is what the number is refused by.
use mathlib.Core.Path.{◌≡◌, sym, ap, ◌∙◌}
use mathlib.Core.Bool.{Bool, true, false}
use Prim.Native.Nat.{ℕ}
use Rattle.group.specs.Answers.{unless}
use Rattle.group_checks.proofs.one_of.Goals as goal

-- the number of a test that came out so
told : (b test : Bool) (r : ℕ) (v : Bool) → b ≡ test → b ≡ v → unless v r ≡ unless test r
told b test r v e h = ap (λ x. unless x r) (sym h ∙ e)

pub returns-then-is_between : goal.returns-then-is_between
returns-then-is_between c = told _ _ 3 true c.is_between.ensures c.if-is_between.true

pub returns : goal.returns
returns c = told _ _ 3 false c.is_between.ensures c.if-is_between.false
