-- What a search among the nodes finds, by how many are wrong: 0, 1, or 2 where there are more.
use Rattle.std.specs.Prelude.{List, ℕ}
use Rattle.letters.specs.Algebra.{xors}
use Rattle.group.specs.declared.Group.{Group}
use Rattle.sequences.specs.Lists.{ranked}
use Rattle.matrix.specs.Matrix.{packets}
use Rattle.agreement.specs.Agreement.{handed_by, FirstWrong, Shared, SharedWithout, OddAlone, SeveralWrong}

pub data Searched (g : Group) (ids handed file : List ℕ) : (wrong rank place : ℕ) → Type 0 where
  agree : (c p : ℕ) → Shared g ids handed file → Searched g ids handed file 0 c p
  odd :
      (b place : ℕ) → OddAlone g ids handed b → SharedWithout g ids handed b file
      → FirstWrong (handed_by g ids handed b) (packets xors g file (ranked ids b)) place → Searched g ids handed file 1 b place
  several : (c p : ℕ) → SeveralWrong g ids handed → Searched g ids handed file 2 c p
