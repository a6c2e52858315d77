-- What a tile reads from before it was taken out of its runs.
use Rattle.std.specs.Prelude.{◌≡◌, List, ℕ, length}
use Rattle.letters.specs.Algebra.{xors}
use Rattle.system.specs.System.{sequence}
use Rattle.tiles.specs.Tile.{run_of, WithinTile, TakenOut}

-- Out of the runs of the ranks up to c, in a buffer of sequences of n letters that was xs and is ys now.
pub record TakesOut (s n : ℕ) (t : ℕ → ℕ → ℕ) (done count below hi : ℕ) (xs : List ℕ) (c : ℕ) (ys : List ℕ) : Type 0 where
  pub same_length : length ys ≡ length xs
  pub within : WithinTile s n t done count below hi (sequence 0 xs n) (sequence 0 ys n)
  pub taken : TakenOut xors t done count below hi (sequence 0 xs n) c (run_of 0 t done count (sequence 0 ys n))
