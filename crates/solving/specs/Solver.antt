-- The solver's contract: what it leaves. What it must be handed is `Solvable` (equation/specs/Rows.antt).
use Rattle.std.specs.Prelude.{◌≡◌, List, ℕ, ◌≤◌, length}
use Rattle.letters.specs.Algebra.{xors}
use Rattle.system.specs.System.{part, sequence}
use Rattle.system.specs.Count.{additions}
use Rattle.equation.specs.Rows.{shift_in}

-- The parts of the sequences in the buffer at exit are what stood there at entry.
pub record Solved (s n : ℕ) (rows before after : List ℕ) : Type 0 where
  pub same_length : length after ≡ length before
  pub parts :
      (b p : ℕ) → 1 ≤ b → b ≤ s → 1 ≤ p → p ≤ n
      → part xors s (shift_in rows) (sequence 0 after n) b p ≡ sequence 0 before n b p

-- The same, and the count is the number of its terms whose letter isn't zero in what came out.
pub record SolvedCounted (s n : ℕ) (rows before after : List ℕ) (count : ℕ) : Type 0 where
  pub solved : Solved s n rows before after
  pub counted : count ≡ additions s n (shift_in rows) (sequence 0 after n)
