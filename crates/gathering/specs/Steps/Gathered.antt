-- The ids that are kept, and what is collected of their nodes.
use Rattle.std.specs.Prelude.{◌≡◌, List, ℕ, length, take}
use Rattle.group.specs.declared.Group.{Group}
use Rattle.agreement.specs.Agreement.{handed_by}
use Rattle.agreement.specs.Steps.Trying.{kept_rank, kept_ids, collected}

-- the ids of k ranks at the front of an array
pub record KeptIds (g : Group) (ids : List ℕ) (without : ℕ) (kept : List ℕ) : Type 0 where
  pub size : length kept ≡ 16
  pub front : take g.k kept ≡ kept_ids g ids (kept_rank without)

-- the pieces of the first k+1 nodes without one, laid out as the file
abbrev pub collected_without : Group → List ℕ → List ℕ → ℕ → List ℕ
collected_without g ids handed b = collected g (kept_ids g ids (kept_rank b)) (λ v. handed_by g ids handed (kept_rank b v))
