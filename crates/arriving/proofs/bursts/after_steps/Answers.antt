-- `after_steps` meets its contract: where some bytes are stepped over the head is in, and any state can be gone on from.
use mathlib.Core.Path.{refl, ap, ◌∙◌}
use Rattle.heads.specs.Heads.{heads}
use Rattle.arriving.proofs.PastHead.{some_steps}
use Rattle.arriving.proofs.bursts.after_steps.Goals as goal

pub head_so_far-requires : goal.head_so_far-requires
head_so_far-requires c = (some_steps _ _ _ c.requires c.if-start-eq0.false _ refl).0.small

pub searched-requires : goal.searched-requires
searched-requires c =
    some_steps _ _ _ c.requires c.if-start-eq0.false _
    (c.total-letters.ensures ∙ ap heads.total c.head_so_far.ensures)
