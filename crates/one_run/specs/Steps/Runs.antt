-- One run of a buffer is changed: another one, moved right, is added to it, or it is summed up in strides.
use Rattle.std.specs.Prelude.{◌≡◌, List, ℕ, ◌+◌, ◌≤◌, ◌<◌, length, get_or}
use Rattle.letters.specs.Algebra.{xors}
use Rattle.letters.specs.Places.{letter}
use Rattle.tiles.specs.Turns.{Added, SummedUp}

-- only letters of the run of m letters from index start on changed
pub record OnlyRun (start m : ℕ) (before after : List ℕ) : Type 0 where
  pub same_length : length after ≡ length before
  pub kept : (i : ℕ) → (start ≤ i → i < start + m → ⊥) → get_or after i 0 ≡ get_or before i 0

-- the run of m letters from index `from` on, moved right by d, was added to the one from index `to` on; what is pushed out to the right is dropped
pub record RunAdded (to from m d : ℕ) (before after : List ℕ) : Type 0 where
  pub only : OnlyRun to m before after
  pub added : Added xors m d (letter 0 before from m) (letter 0 before to m) (letter 0 after to m)

-- the run was summed up in strides of w
pub record RunSummed (start m w : ℕ) (before after : List ℕ) : Type 0 where
  pub only : OnlyRun start m before after
  pub summed : SummedUp xors m w (letter 0 before start m) (letter 0 after start m)
