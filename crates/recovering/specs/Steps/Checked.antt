-- What the checks let through.
use Rattle.std.specs.Prelude.{◌≡◌, List, ℕ}
use Rattle.group.specs.declared.Group.{Group}
use Rattle.matrix.specs.Pieces.{Chosen}
use Rattle.recovering.specs.Calls.{readers_refusal}

-- Ids that may be read.
pub record Readers (g : Group) (ids : List ℕ) : Type 0 where
  pub chosen : Chosen g g.k ids
  pub fine : readers_refusal g ids ≡ 0
