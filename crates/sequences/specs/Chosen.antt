-- Ids that are read together, or that help together.
use Rattle.std.specs.Prelude.{◌≡◌, List, ℕ, ◌≤◌, length}
use Rattle.system.specs.Order.{Falling}
use Rattle.sequences.specs.Lists.{ranked}

-- So many ids, each one of 1..n, and strictly falling.
pub record ChosenIds (n wanted : ℕ) (ids : List ℕ) : Type 0 where
  pub many : length ids ≡ wanted
  pub falling : Falling wanted (ranked ids)
  pub known : (v : ℕ) → 1 ≤ v → v ≤ wanted → ranked ids v ≤ n
