-- What one rank more makes of what was found.
use Rattle.std.specs.Prelude.{cond, ℕ, zero, suc, ◌+◌, leb, eqb}
use Rattle.comparing_nodes.specs.declared.Found.{Found}
use Rattle.comparing_nodes.specs.declared.Found.TheVariants.{Nobody, One, Several}

-- how many nodes are wrong: 0, 1, or 2 where there are more
abbrev pub wrong_nodes : Found → ℕ
wrong_nodes Nobody = 0
wrong_nodes (One w) = 1
wrong_nodes Several = 2

-- the rank of the one that is, and the place of its first wrong letter; 0 where it isn't one
abbrev pub wrong_rank : Found → ℕ
wrong_rank Nobody = 0
wrong_rank (One w) = w.rank
wrong_rank Several = 0

abbrev pub wrong_place : Found → ℕ
wrong_place Nobody = 0
wrong_place (One w) = w.place
wrong_place Several = 0

-- this many nodes are wrong, and where it is one it is this
abbrev pub found_of : ℕ → ℕ → ℕ → Found
found_of zero rank place = Nobody
found_of (suc zero) rank place = One (record { rank = rank; place = place })
found_of (suc (suc more)) rank place = Several

-- a rank of which so many letters are right
unfoldable pub noted : Found → ℕ → ℕ → ℕ → Found
noted found rank right count =
    cond (leb count right) found (cond (eqb (wrong_nodes found) 0) (found_of 1 rank (right + 1)) (found_of 2 (wrong_rank found) (wrong_place found)))
