-- What the checks let through.
use Rattle.std.specs.Prelude.{◌≡◌, ℕ, ◌≤◌}
use Rattle.group.specs.declared.Group.{Group}
use Rattle.group.specs.Ranges.{NodeOf}

-- A helper of this rank for the lost node.
pub record Helper (g : Group) (lost helper rank : ℕ) : Type 0 where
  pub node : NodeOf g lost
  pub other : NodeOf g helper
  pub rank_low : 1 ≤ rank
  pub rank_high : rank ≤ g.d
  pub apart : helper ≡ lost → ⊥
