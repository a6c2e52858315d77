-- `Begun::can_be_wrong` meets its contract: 0 or 255 can't stand, or any byte can.
use mathlib.Core.Path.{sym, ◌∙◌}
use native.Mathlib.Omega.{arith}
use borrow.Author.Tests.{not-true}
use Rattle.heads.proofs.Answers.{affirmed}
use Rattle.layout.proofs.Judgments.{not_both}
use Rattle.reaching.proofs.BytesBehind.{any_stands}
use Rattle.reaching.proofs.Near.{not_is}
use Rattle.reaching.proofs.Begun.can_be_wrong.Goals as goal

pub returns-then-not-next_stands : goal.returns-then-not-next_stands
returns-then-not-next_stands c = affirmed (0, omega arith, sym c.next_stands.ensures ∙ c.if-not-next_stands.true)

pub returns : goal.returns
returns c = (
  λ e. (255, omega arith, sym c.next_stands-2.ensures ∙ not-true _ e),
  λ w.
      let s = c in
      not_is c.next_stands-2.result
      (λ high.
      not_both _
      (any_stands s.args.self.head s.args.self.at s.args.self.numbers (sym c.next_stands.ensures ∙ c.if-not-next_stands.false) (sym c.next_stands-2.ensures ∙ high) w.0 w.1)
      w.2),
)
