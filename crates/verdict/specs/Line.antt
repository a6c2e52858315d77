-- The judge's line for any bytes (document 01, its last lines on the examples; docs/SCHEME.md, 13).
use Rattle.std.specs.Prelude.{◌≡◌, List, [], ◌∷◌, ◌++◌, ℕ, ◌≤◌, ◌<◌, length, drop}
use Rattle.group.specs.Answers.{Outcome}
use Rattle.kinds.specs.Kinds.{row_for_kind}
use Rattle.heads.specs.declared.Head.{Head}
use Rattle.heads.specs.Heads.{head_total}
use Rattle.judging.specs.Judging.{Judges}
use Rattle.verdict_words.specs.Words.{complete_line, malformed_line}

-- "unfinished" and the end of the line
abbrev pub unfinished_line : List ℕ
unfinished_line = 117 ∷ 110 ∷ 102 ∷ 105 ∷ 110 ∷ 105 ∷ 115 ∷ 104 ∷ 101 ∷ 100 ∷ 10 ∷ []

-- "too long for this program" and the end of the line
abbrev pub too_long_line : List ℕ
too_long_line = 116 ∷ 111 ∷ 111 ∷ 32 ∷ 108 ∷ 111 ∷ 110 ∷ 103 ∷ 32 ∷ 102 ∷ 111 ∷ 114 ∷ 32 ∷ 116 ∷ 104 ∷ 105 ∷ 115 ∷ 32 ∷ 112 ∷ 114 ∷ 111 ∷ 103 ∷ 114 ∷ 97 ∷ 109 ∷ 10 ∷ []

-- the line of a judgment, with the letters of a share by its head; judging refuses by 7 alone, or tells what is wrong and where
abbrev pub line_with : (Head → ℕ) → Outcome Head → List ℕ
line_with letters (Outcome.fine h) = complete_line h (letters h)
line_with letters (Outcome.refused n) = unfinished_line
line_with letters (Outcome.wrong n q) = malformed_line n q

abbrev pub line_for : Outcome Head → List ℕ
line_for = line_with (λ (h : Head). (row_for_kind h.kind).letters h.group h.node)

-- the same for any judgment, those of no bytes too: a head whose numbers are out of range, which no share has, counts no letters
abbrev pub judgment_line : Outcome Head → List ℕ
judgment_line = line_with head_total

-- The line for these bytes: more than 65,536, whatever they are, are too long; others are judged.
pub data Line (xs : List ℕ) : List ℕ → Type 0 where
  long : 65536 < length xs → Line xs too_long_line
  judged : (j : Outcome Head) → length xs ≤ 65536 → Judges xs j → Line xs (line_for j)

-- What the call answers and what the lent buffer then holds: how many bytes the line has; and the line at its start, every other byte as it was.
pub record Told (xs before : List ℕ) (r : ℕ) (after : List ℕ) : Type 0 where
  pub text : List ℕ
  pub line : Line xs text
  pub count : r ≡ length text
  pub holds : after ≡ text ++ drop (length text) before
