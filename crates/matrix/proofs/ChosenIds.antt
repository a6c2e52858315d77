-- Ids that the checks let through are chosen: as many as wanted, of the group, and falling.
use mathlib.Core.Path.{◌≡◌}
use mathlib.Core.List.{List}
use Prim.Native.Nat.{ℕ}
use Rattle.group.specs.declared.Group.{Group}
use Rattle.group.specs.Ranges.{InRange}
use Rattle.ids.specs.Ids.{ids_refusal}
use Rattle.sequences.proofs.ChosenIds.{chosen_ids}
use Rattle.matrix.specs.Pieces.{Chosen}

pub chosen_of : (g : Group) (wanted : ℕ) (ids : List ℕ) → InRange g → ids_refusal g wanted ids ≡ 0 → Chosen g wanted ids
chosen_of g wanted ids r e = record { group = r; nodes = chosen_ids g wanted ids e }
