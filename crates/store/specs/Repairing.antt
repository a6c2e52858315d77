-- A lost node is rebuilt: `help` of each of d nodes, and `repair` of their pieces one after another.
use Rattle.std.specs.Prelude.{◌≡◌, List, ℕ, ◌≤◌}
use Rattle.group.specs.declared.Group.{Group}
use Rattle.group.specs.Answers.{Answer}
use Rattle.group.specs.Answers.{number_of}
use Rattle.sequences.specs.Lists.{joined, ranked}
use Rattle.helpers.specs.Calls.{Helped}
use Rattle.rebuilding.specs.Calls.{Repaired}

-- The calls by which these helpers, where the one of rank u holds held u, rebuild the lost node: none of them refuses, and this is what the buffer holds at exit.
pub record Rebuilds (g : Group) (lost : ℕ) (helpers : List ℕ) (held : ℕ → List ℕ) (rebuilt : List ℕ) (r : Answer) : Type 0 where
  pub room : ℕ → List ℕ
  pub piece : ℕ → List ℕ
  pub answer : ℕ → Answer
  pub helped : (u : ℕ) → 1 ≤ u → u ≤ g.d → Helped g lost (ranked helpers u) u (held u) (room u) (piece u) (answer u)
  pub none_refused : (u : ℕ) → 1 ≤ u → u ≤ g.d → number_of (answer u) ≡ 0
  pub repaired : Repaired g lost helpers (joined g.d piece) rebuilt r
  pub not_refused : number_of r ≡ 0
