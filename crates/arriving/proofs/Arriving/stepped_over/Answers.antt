-- `stepped_over` meets its contract: the head's numbers are tested first, and then the blocks tell.
use mathlib.Core.Path.{ap, ◌∙◌}
use native.Mathlib.Omega.{arith}
use Rattle.heads.specs.Heads.{heads}
use Rattle.heads.proofs.HeadLaws.{total_small}
use Rattle.arriving.specs.Steps.Reaching.{StepsOver}
use Rattle.arriving.proofs.Arriving.stepped_over.Goals as goal

pub returns-then-self-ne0 : goal.returns-then-self-ne0
returns-then-self-ne0 c = StepsOver.none

pub returns-then-self-head_size : goal.returns-then-self-head_size
returns-then-self-head_size c = StepsOver.none

pub returns-then-self-gt-LAST_BATCH : goal.returns-then-self-gt-LAST_BATCH
returns-then-self-gt-LAST_BATCH c = StepsOver.none

pub within-requires : goal.within-requires
within-requires c = omega (arith, c.total-letters.ensures, total_small c.head_so_far.result)

pub returns-then-not-within : goal.returns-then-not-within
returns-then-not-within c = StepsOver.none

pub stepped-requires : goal.stepped-requires
stepped-requires c = (omega arith, (c.within.ensures.0 c.if-not-within.false).share, omega (arith, c.total-letters.ensures, total_small c.head_so_far.result))

pub returns : goal.returns
returns c =
    StepsOver.some _ _
    (record {
      small = omega arith;
      none = omega arith;
      long = omega arith;
      total = c.total-letters.ensures ∙ ap heads.total c.head_so_far.ensures;
      within = c.within.ensures.0 c.if-not-within.false;
    })
    c.stepped.ensures
