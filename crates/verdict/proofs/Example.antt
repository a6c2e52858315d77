-- The documents' examples of the line (docs/SCHEME.md, 13), computed from the definitions: P9's head, and document 02's `malformed 9 at 4`.
use mathlib.Core.Path.{◌≡◌, refl}
use mathlib.Core.List.{List, [], ◌∷◌}
use Prim.Native.Nat.{ℕ}
use Rattle.group.specs.Answers.{Outcome}
use Rattle.shifts.specs.Rule.{t}
use Rattle.lengths.specs.Lengths.{node_letters}
use Rattle.kinds.specs.Kinds.{row_for_kind}
use Rattle.heads.specs.declared.Head.{Head}
use Rattle.text.specs.Text.{places, decimal}
use Rattle.verdict.specs.Line.{line_for}

-- [3,2,2], L = 1, node 1, batch 7
abbrev ninth : Head
ninth = record { group = record { n = 3; k = 2; d = 2; l = 1 }; node = 1; batch = 7; kind = 1 }

-- "complete 3 2 2 node 1 length 1 batch 7 letters 2" and the end of the line
abbrev wanted : List ℕ
wanted =
    99 ∷ 111 ∷ 109 ∷ 112 ∷ 108 ∷ 101 ∷ 116 ∷ 101 ∷ 32 ∷ 51 ∷ 32 ∷ 50 ∷ 32 ∷ 50 ∷ 32 ∷ 110 ∷ 111 ∷ 100 ∷ 101 ∷ 32 ∷ 49 ∷ 32 ∷ 108 ∷
    101 ∷ 110 ∷ 103 ∷ 116 ∷ 104 ∷ 32 ∷ 49 ∷ 32 ∷ 98 ∷ 97 ∷ 116 ∷ 99 ∷ 104 ∷ 32 ∷ 55 ∷ 32 ∷ 108 ∷ 101 ∷ 116 ∷ 116 ∷ 101 ∷ 114 ∷ 115 ∷
    32 ∷ 50 ∷ 10 ∷ []

pub ninth_line : line_for (Outcome.fine ninth) ≡ wanted
unfolding places decimal row_for_kind node_letters t
ninth_line = refl

-- "malformed 9 at 4" and the end of the line
pub malformed_line_lem :
    line_for (Outcome.wrong 9 4)
    ≡ 109 ∷ 97 ∷ 108 ∷ 102 ∷ 111 ∷ 114 ∷ 109 ∷ 101 ∷ 100 ∷ 32 ∷ 57 ∷ 32 ∷ 97 ∷ 116 ∷ 32 ∷ 52 ∷ 10 ∷ []
unfolding places decimal
malformed_line_lem = refl
