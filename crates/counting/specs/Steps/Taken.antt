-- A run of n letters of a buffer as an equation takes it: all but some at one of its ends, and nothing if those are all.
use Rattle.std.specs.Prelude.{◌≡◌, List, ℕ, ◌+◌, ◌≤◌, ◌<◌, length}
use Rattle.letters.specs.Algebra.{counts, sum}
use Rattle.letters.specs.Places.{letter}
use Rattle.worth.specs.Worth.{worth_in}
use Rattle.system.specs.Count.{terms, other}
use Rattle.equation.specs.Rows.{shift_in}

-- a run that lies in the buffer, and how many of its letters aren't zero
pub record Counted (buffer : List ℕ) (start n whole : ℕ) : Type 0 where
  pub fits : start + n ≤ length buffer
  pub all : whole ≡ worth_in buffer start n

-- r of the letters that aren't zero are left of it, if those `outside` letters are not taken that start at index `from`
pub record LeftOf (buffer : List ℕ) (start n from outside r : ℕ) : Type 0 where
  pub none : n ≤ outside → r ≡ 0
  pub rest : outside < n → r + worth_in buffer from outside ≡ worth_in buffer start n

-- the terms of rank b, where the run lies in its equations as sequence a
abbrev pub run_terms : List ℕ → ℕ → ℕ → List ℕ → ℕ → ℕ → ℕ
run_terms buffer start n rows b a = terms n (shift_in rows) (letter 0 buffer start n) b a

-- those of the first s ranks but its own
abbrev pub others_terms : List ℕ → ℕ → ℕ → List ℕ → ℕ → ℕ → ℕ
others_terms buffer start n rows s a = sum counts s (λ b. other a b (run_terms buffer start n rows b a))
