-- The words and numbers of the judge's line (document 01, its last lines on the examples; docs/SCHEME.md, 13).
use Rattle.std.specs.Prelude.{List, [], ◌∷◌, ◌++◌, ℕ}
use Rattle.group.specs.declared.Group.{Group}
use Rattle.heads.specs.declared.Head.{Head}
use Rattle.text.specs.Text.{numbered}

-- "complete "
abbrev pub complete_word : List ℕ
complete_word = 99 ∷ 111 ∷ 109 ∷ 112 ∷ 108 ∷ 101 ∷ 116 ∷ 101 ∷ 32 ∷ []

-- " "
abbrev pub space : List ℕ
space = 32 ∷ []

-- " node "
abbrev pub node_word : List ℕ
node_word = 32 ∷ 110 ∷ 111 ∷ 100 ∷ 101 ∷ 32 ∷ []

-- " length "
abbrev pub length_word : List ℕ
length_word = 32 ∷ 108 ∷ 101 ∷ 110 ∷ 103 ∷ 116 ∷ 104 ∷ 32 ∷ []

-- " batch "
abbrev pub batch_word : List ℕ
batch_word = 32 ∷ 98 ∷ 97 ∷ 116 ∷ 99 ∷ 104 ∷ 32 ∷ []

-- " letters "
abbrev pub letters_word : List ℕ
letters_word = 32 ∷ 108 ∷ 101 ∷ 116 ∷ 116 ∷ 101 ∷ 114 ∷ 115 ∷ 32 ∷ []

-- the end of a line
abbrev pub new_line : List ℕ
new_line = 10 ∷ []

-- "malformed "
abbrev pub malformed_word : List ℕ
malformed_word = 109 ∷ 97 ∷ 108 ∷ 102 ∷ 111 ∷ 114 ∷ 109 ∷ 101 ∷ 100 ∷ 32 ∷ []

-- " at "
abbrev pub at_word : List ℕ
at_word = 32 ∷ 97 ∷ 116 ∷ 32 ∷ []

-- `complete` and the group's three numbers
abbrev pub complete_group : Group → List ℕ
complete_group g = numbered complete_word g.n ++ (numbered space g.k ++ numbered space g.d)

-- and the rest by name; the last number is T
abbrev pub complete_line : Head → ℕ → List ℕ
complete_line h letters =
    complete_group h.group
    ++ (numbered node_word h.node
    ++ (numbered length_word h.group.l
    ++ (numbered batch_word h.batch
    ++ (numbered letters_word letters
    ++ new_line))))

-- `malformed`, what is wrong by its number, and the index of the first byte that can't stand there
abbrev pub malformed_line : ℕ → ℕ → List ℕ
malformed_line number at = numbered malformed_word number ++ (numbered at_word at ++ new_line)
