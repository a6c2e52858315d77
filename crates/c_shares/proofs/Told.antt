-- How what writing a share answers is told to C.
use mathlib.Core.Path.{◌≡◌, ◌∙◌}
use mathlib.Core.List.{List}
use Prim.Native.Nat.{ℕ}
use Rattle.group.specs.Answers.{Answer}
use Rattle.group.specs.Answers.{number_of}
use Rattle.layout.specs.Share.{share_of}
use Rattle.heads.specs.declared.Head.{Head}
use Rattle.heads.specs.Heads.{heads}
use Rattle.share.specs.Calls.{Writes}
use Rattle.c_answers.specs.Exports.{Fills}

pub wrote_of :
    (h : Head) (letters before after : List ℕ) (q : ℕ) (a : Answer) (r : ℕ) → Writes h letters before q a after → r ≡ number_of a
    → Fills q (share_of heads h letters) before after r
wrote_of h letters before after q a r done e = record { returned = e ∙ done.answered.number; holds = done.held }
