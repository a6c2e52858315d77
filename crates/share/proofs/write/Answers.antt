-- `share::write` meets its contract: its head has the kind that serves its L.
use mathlib.Core.Path.{◌≡◌, subst}
use mathlib.Core.List.{List}
use Prim.Native.Nat.{ℕ}
use Rattle.group.specs.declared.Group.{Group}
use Rattle.group.specs.Answers.{Answer}
use Rattle.kinds.specs.Kinds.{kind_for_length}
use Rattle.share.specs.Calls.{Written, head_for}
use Rattle.share.proofs.write.Goals as goal

chosen :
    (g : Group) (node batch kind : ℕ) (packets before after : List ℕ) (r : Answer) → kind ≡ kind_for_length g.l
    → Written (record { group = g; node = node; batch = batch; kind = kind }) packets before r after → Written (head_for g node batch) packets before r after
chosen g node batch kind packets before after r e =
    subst (λ kind. Written (record { group = g; node = node; batch = batch; kind = kind }) packets before r after) e

pub returns : goal.returns
returns c = chosen _ _ _ _ _ _ _ _ c.for_length.ensures c.write_head.ensures
