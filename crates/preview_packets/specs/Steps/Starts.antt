-- Where the sequences of a file start.
use Rattle.std.specs.Prelude.{◌≡◌, List, ℕ, ◌*◌, ◌<◌, length, get_or}
use Rattle.group.specs.declared.Group.{Group}

-- the start of each of the k sequences, in an array
pub record SequenceStarts (g : Group) (starts : List ℕ) : Type 0 where
  pub size : length starts ≡ 16
  pub each : (u : ℕ) → u < g.k → get_or starts u 0 ≡ u * g.l
