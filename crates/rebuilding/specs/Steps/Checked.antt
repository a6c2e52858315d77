-- What the checks let through.
use Rattle.std.specs.Prelude.{◌≡◌, List, ℕ}
use Rattle.group.specs.declared.Group.{Group}
use Rattle.group.specs.Ranges.{NodeOf}
use Rattle.matrix.specs.Pieces.{Chosen}
use Rattle.rebuilding.specs.Calls.{helpers_refusal}

-- The lost node and d helpers that may rebuild it.
pub record Helpers (g : Group) (lost : ℕ) (helpers : List ℕ) : Type 0 where
  pub node : NodeOf g lost
  pub chosen : Chosen g g.d helpers
  pub fine : helpers_refusal g lost helpers ≡ 0
