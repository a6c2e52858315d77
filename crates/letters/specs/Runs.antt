-- Lists of letters added to each other.
use Rattle.std.specs.Prelude.{List, [], ◌∷◌, ◌++◌, ℕ, drop}
use Rattle.std.proofs.Math.ListN.{take}
use Rattle.letters.specs.Algebra.{Adding}

module _ {A : Type 0} (𝓐 : Adding A) where
  -- The XOR of two lists, letter by letter. The first keeps its length: where the second is shorter, its missing letters count as zero.
  unfoldable pub xored : List A → List A → List A
  xored [] ys = []
  xored (x ∷ xs) [] = x ∷ xs
  xored (x ∷ xs) (y ∷ ys) = 𝓐.plus x y ∷ xored xs ys

  -- xs after the run ys was added into it from index at on. The letters before, and those after the run, are as they were.
  unfoldable pub added : List A → ℕ → List A → List A
  unfolding xored
  added xs at ys = take at xs ++ xored (drop at xs) ys
