-- `reaching::head_at` meets its contract: in the head its bytes tell, and past it the share's size, since numbers out of range have none.
use mathlib.Core.Path.{sym, subst}
use Prim.Native.Nat.{◌≤◌}
use native.Mathlib.Omega.{arith}
use Rattle.kinds.specs.Kinds.{head_size}
use Rattle.heads.proofs.HeadLaws.{total_small}
use Rattle.reaching.specs.Steps.Reaching.{Within}
use Rattle.reaching.proofs.Near.{within_numbers, numbers_within}
use Rattle.reaching.proofs.head_at.Goals as goal

pub returns-then-at-head_size : goal.returns-then-at-head_size
returns-then-at-head_size c = (
  λ e.
      record {
        partly = λ few. c.partly_in.ensures.0 e;
        whole = λ long. absurd (omega (arith, c.head_size.ensures));
        share = λ long. absurd (omega (arith, c.head_size.ensures));
      },
  λ w. c.partly_in.ensures.1 (w.partly (omega (arith, c.if-at-head_size.true, c.head_size.ensures))),
)

pub within-requires : goal.within-requires
within-requires c = omega (arith, c.requires, total_small c.args.head)

pub returns : goal.returns
returns c =
    let s = c in
    let long : head_size s.args.head.kind ≤ s.args.at = omega (arith, c.if-at-head_size.false, c.head_size.ensures) in (
      λ yes. within_numbers s.args.head s.args.at long (omega arith) (subst (λ n. Within s.args.head.kind n s.args.at) s.requires (c.within.ensures.0 yes)),
      λ w. c.within.ensures.1 (subst (λ n. Within s.args.head.kind n s.args.at) (sym s.requires) (numbers_within s.args.head s.args.at long w)),
    )
