-- What document 01 asks of a list of ids (docs/SCHEME.md, 11), and the refusals that follow.
use Rattle.std.specs.Prelude.{Bool, true, false, List, [], ◌∷◌, ℕ, ltb, eqb, length}
use Rattle.letters.specs.Places.{both, either}
use Rattle.group.specs.declared.Group.{Group}
use Rattle.group.specs.Answers.{unless, first}
use Rattle.group.specs.Ranges.{between}

-- every id is one of 1..n
unfoldable pub all_in_range : ℕ → List ℕ → Bool
all_in_range n [] = true
all_in_range n (i ∷ ids) = both (between 1 n i) (all_in_range n ids)

-- each id is below the one before it
unfoldable pub falling : List ℕ → Bool
falling [] = true
falling (i ∷ []) = true
falling (i ∷ (j ∷ ids)) = both (ltb j i) (falling (j ∷ ids))

-- f is one of the ids
unfoldable pub among : ℕ → List ℕ → Bool
among f [] = false
among f (i ∷ ids) = either (eqb i f) (among f ids)

-- refusals 3 and 4 of a list of ids that must be so many
unfoldable pub ids_refusal : Group → ℕ → List ℕ → ℕ
unfolding all_in_range falling
ids_refusal g wanted ids = first (unless (both (eqb (length ids) wanted) (all_in_range g.n ids)) 3) (unless (falling ids) 4)
