-- How far the solver has come, and what its small tables hold, for the contracts of its own functions.
use Rattle.std.specs.Prelude.{◌≡◌, List, ℕ, ◌≤◌, length}
use Rattle.letters.specs.Algebra.{xors}
use Rattle.system.specs.System.{sequence}
use Rattle.equation.specs.Rows.{shift_in}
use Rattle.equation.specs.Delays.{Delays}
use Rattle.tiles.specs.Tile.{Through}
use Rattle.one_turn.specs.Tables.{even_shift, Tables}

-- both, and that they are the system's
pub record TablesOf (s : ℕ) (rows exps delays : List ℕ) : Type 0 where
  pub tables : Tables s exps delays
  pub waits : Delays s rows delays
  pub same : (b a : ℕ) → 1 ≤ b → b ≤ s → 1 ≤ a → a ≤ s → shift_in rows b a ≡ even_shift exps b a

-- from one round to another: whatever the sequences were solved for up to the first, they are up to the second
pub record Onward (s n : ℕ) (rows before after : List ℕ) (from to : ℕ) : Type 0 where
  pub same_length : length after ≡ length before
  pub goes_on :
      (y : ℕ → ℕ → ℕ) → Through xors s n (shift_in rows) y (sequence 0 before n) from → Through xors s n (shift_in rows) y (sequence 0 after n) to
