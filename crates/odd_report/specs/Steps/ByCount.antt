-- How nodes stand, by how many are wrong.
use Rattle.std.specs.Prelude.{◌≡◌, cond, List, ℕ, ◌≤◌, eqb, leb, length}
use Rattle.sequences.specs.Lists.{ranked}
use Rattle.comparing_nodes.specs.declared.Found.{Found}
use Rattle.comparing_nodes.specs.Steps.Noting.{wrong_nodes, wrong_rank}
use Rattle.odd_report.specs.declared.Standing.{Standing}
use Rattle.odd_report.specs.declared.Standing.TheVariants.{Agreeing, Unknown, Odd}

-- a node that is present
unfoldable pub standing_by : ℕ → ℕ → ℕ → ℕ → Standing
standing_by wrong odd place i = cond (leb 2 wrong) Unknown (cond (eqb wrong 0) Agreeing (cond (eqb i odd) (Odd place) Agreeing))

-- where one is wrong, its rank is one of the ids'
pub record Named (ids : List ℕ) (found : Found) : Type 0 where
  pub low : wrong_nodes found ≡ 1 → 1 ≤ wrong_rank found
  pub high : wrong_nodes found ≡ 1 → wrong_rank found ≤ length ids

-- its id
unfoldable pub odd_id : List ℕ → Found → ℕ
unfolding ranked
odd_id ids found = cond (eqb (wrong_nodes found) 1) (ranked ids (wrong_rank found)) 0
