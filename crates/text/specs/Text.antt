-- Text in a line: words, a number in decimal after them, and what it means that they were put there.
use Rattle.std.specs.Prelude.{◌≡◌, cond, List, ◌++◌, ℕ, zero, suc, ◌+◌, ◌/◌, ◌≤◌, ltb, length, take, drop}
use Rattle.io.specs.Digits.{last_digits}

-- how many decimal digits a number has, if it has at most one more than the first number says
unfoldable pub places : ℕ → ℕ → ℕ
places zero n = 1
places (suc more) n = cond (ltb n 10) 1 (suc (places more (n / 10)))

-- a number below 10^20 in decimal, with no zeros in front
unfoldable pub decimal : ℕ → List ℕ
decimal n = last_digits 10 (places 19 n) n

-- a word and a number after it
abbrev pub numbered : List ℕ → ℕ → List ℕ
numbered word n = word ++ decimal n

-- A text was put at index `at`; the answer is the index after it, and every other byte is as it was.
pub record Put (before : List ℕ) (at : ℕ) (text : List ℕ) (r : ℕ) (after : List ℕ) : Type 0 where
  pub room : at ≤ length before
  pub count : r ≡ at + length text
  pub holds : after ≡ take at before ++ (text ++ drop (at + length text) before)
