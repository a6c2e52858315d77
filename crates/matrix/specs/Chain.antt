-- What a node may hold: demand 3's chain of losses and repairs.
use Rattle.std.specs.Prelude.{◌≡◌, List, ℕ, ◌*◌, ◌≤◌, length}
use Rattle.letters.specs.Algebra.{Adding}
use Rattle.group.specs.declared.Group.{Group}
use Rattle.group.specs.Ranges.{NodeOf}
use Rattle.lengths.specs.Lengths.{repair_letters}
use Rattle.sequences.specs.Lists.{joined, ranked}
use Rattle.matrix.specs.Matrix.{packets}
use Rattle.matrix.specs.Pieces.{Chosen}
use Rattle.matrix.specs.Repair.{helping, equations}

-- Node i holds these letters, because the encoding gave them, or because a repair did from d other nodes that hold theirs.
pub data Holds {A : Type 0} (𝓐 : Adding A) (g : Group) (file : List A) : ℕ → List A → Type 0 where
  encoded : {i : ℕ} → NodeOf g i → Holds 𝓐 g file i (packets 𝓐 g file i)
  repaired :
      {lost : ℕ} {rebuilt : List A} (helpers : List ℕ) (held : ℕ → List A) → NodeOf g lost → Chosen g g.d helpers
      → ((u : ℕ) → 1 ≤ u → u ≤ g.d → Holds 𝓐 g file (ranked helpers u) (held u))
      → length rebuilt ≡ g.d * repair_letters g lost
      → equations 𝓐 g lost helpers rebuilt ≡ joined g.d (λ u. helping 𝓐 g lost (ranked helpers u) u (held u))
      → Holds 𝓐 g file lost rebuilt
