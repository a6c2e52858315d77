-- Chosen ids are ranks that the solver can take under the rule of document 01 (docs/SCHEME.md, 2), so rows of their shifts are what it wants.
use mathlib.Core.Path.{sym, ap}
use mathlib.Core.List.{List}
use Prim.Native.Nat.{ℕ, ◌-◌, ◌*◌, ◌≤◌}
use native.Mathlib.Nat.{mul-one}
use native.Mathlib.Omega.{arith}
use Rattle.shifts.specs.Rule.{t}
use Rattle.shifts.proofs.Rule.{refined, at_most}
use Rattle.group.specs.declared.Group.{Group}
use Rattle.sequences.specs.Steps.Rows.{Known}
use Rattle.sequences.proofs.Charted.{Ranks}
use Rattle.sequences.proofs.ChosenIds.{known_ids, chosen_ranks}
use Rattle.matrix.specs.Pieces.{Chosen}

module _ (g : Group) (wanted : ℕ) (ids : List ℕ) (c : Chosen g wanted ids) (few : wanted ≤ 16) where
  -- chosen ids fit the table
  pub known : Known ids
  known = known_ids g.n wanted ids c.nodes c.group.n-high few

  pub ranks : Ranks t wanted ids
  unfolding t
  ranks =
      chosen_ranks g.n wanted ids c.nodes c.group.n-high few t refined (λ i j hi hj. omega (arith, at_most i j hi hj))
      (λ i j. ap (λ m. m * (j - 1)) (sym (mul-one (i - 1))))
