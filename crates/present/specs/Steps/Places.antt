-- Which nodes are present, and where their letters start.
use Rattle.std.specs.Prelude.{◌≡◌, List, ℕ, ◌+◌, ◌≤◌, length, get_or}
use Rattle.group.specs.declared.Group.{Group}
use Rattle.matrix.specs.Pieces.{Chosen}
use Rattle.agreement.specs.Agreement.{letters_of}

-- nodes of the group, at least k+2, that handed in their letters
pub record Present (g : Group) (ids handed : List ℕ) : Type 0 where
  pub chosen : Chosen g (length ids) ids
  pub spare : g.k + 2 ≤ length ids
  pub long : length handed ≡ letters_of g ids (length ids)

-- the letters of the ranks before each
pub record StartsAt (g : Group) (ids starts : List ℕ) : Type 0 where
  pub size : length starts ≡ 17
  pub before : (v : ℕ) → v ≤ length ids → get_or starts v 0 ≡ letters_of g ids v
