-- `skipping::letters_after` meets its contract: only a block has letters, and from any offset of it those that are left follow.
use native.Mathlib.Omega.{arith}
use Rattle.skipping.proofs.SteppedOver.{letters_behind}
use Rattle.skipping.proofs.letters_after.Goals as goal

pub returns : goal.returns
returns c =
    letters_behind _ _ _ _ c.if-nth-eq0.false (omega (arith, c.blocks_of.ensures)) (omega (arith, c.lesser-here.ensures)) (omega (arith, c.lesser-here.ensures)) (λ full. omega (arith, c.lesser-here.ensures, c.if-nth-eq0.false))
