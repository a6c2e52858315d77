-- What is left past the start are whole blocks.
use Rattle.std.proofs.Common.{arith}
use Rattle.letters.proofs.Laying.{nothing_laid}
use Rattle.letters.proofs.Rests.{in_run, rest_in}
use Rattle.laid_sums.proofs.apart.lay_blocks.Goals as goal

pub loop-at-init : goal.loop-at-init
loop-at-init c = (omega arith, in_run _ _ _ c.requires.1, rest_in _ _ c.requires.1, nothing_laid _ _ _ _ (omega arith))
