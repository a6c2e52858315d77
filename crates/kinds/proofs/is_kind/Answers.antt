-- `is_kind` meets its contract: its tests are the definition's own.
use native.Mathlib.Omega.{arith}
use borrow.Author.Tests.{ne_eqb}
use Rattle.kinds.specs.Kinds.{is_kind}
use Rattle.kinds.proofs.is_kind.Goals as goal

pub returns-in-1 : goal.returns-in-1
unfolding is_kind
returns-in-1 c = rw c.in-1.is

pub returns-in-5 : goal.returns-in-5
unfolding is_kind
returns-in-5 c = rw c.in-5.is

pub returns-in_default : goal.returns-in_default
unfolding is_kind
returns-in_default c = simp (ne_eqb c.args.kind 1 (λ e. omega arith), ne_eqb c.args.kind 5 (λ e. omega arith))
