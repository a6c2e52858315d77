-- A file that is recovered from k of the nodes, and what comes of comparing it with all of them.
use Rattle.std.specs.Prelude.{◌≡◌, cond, List, ℕ, ◌+◌, ◌≤◌, ◌<◌, ltb, length}
use Rattle.letters.specs.Algebra.{xors}
use Rattle.group.specs.declared.Group.{Group}
use Rattle.lengths.specs.Lengths.{file_letters}
use Rattle.sequences.specs.Lists.{run, ranked}
use Rattle.matrix.specs.Matrix.{as_file, packets}
use Rattle.matrix.specs.Pieces.{piece_in, reading}
use Rattle.agreement.specs.Agreement.{handed_by, letter_at, FirstWrong, Gives}

-- the v-th rank where rank b is passed over
unfoldable pub kept_rank : ℕ → ℕ → ℕ
kept_rank b v = cond (ltb v b) v (v + 1)

-- the ids of k ranks
unfoldable pub kept_ids : Group → List ℕ → (ℕ → ℕ) → List ℕ
unfolding run ranked
kept_ids g ids rank = run g.k (λ v. ranked ids (rank v))

-- what the collector's buffer holds where the node of the v-th of these ids holds these letters
unfoldable pub collected : Group → List ℕ → (ℕ → List ℕ) → List ℕ
unfolding as_file piece_in ranked
collected g kept held = as_file g (λ v u p. letter_at (piece_in g (ranked kept v) v u (held v)) p)

-- the file that the first k+1 nodes without the one of rank b give back
pub record Tried (g : Group) (ids handed : List ℕ) (b : ℕ) (file : List ℕ) : Type 0 where
  pub long : length file ≡ file_letters g
  pub reads : reading xors g file (kept_ids g ids (kept_rank b)) ≡ collected g (kept_ids g ids (kept_rank b)) (λ v. handed_by g ids handed (kept_rank b v))

-- How many of the first ranks this file doesn't give what they handed in: none; one, of which rank and place of its first wrong letter are told; or more.
pub data Compared (g : Group) (ids handed file : List ℕ) (ranks : ℕ) : (wrong rank place : ℕ) → Type 0 where
  nobody : ((v : ℕ) → 1 ≤ v → v ≤ ranks → Gives g ids handed file v) → Compared g ids handed file ranks 0 0 0
  one :
      (c p : ℕ) → 1 ≤ c → c ≤ ranks → FirstWrong (handed_by g ids handed c) (packets xors g file (ranked ids c)) p
      → ((v : ℕ) → 1 ≤ v → v ≤ ranks → (v ≡ c → ⊥) → Gives g ids handed file v) → Compared g ids handed file ranks 1 c p
  several :
      (a b c p : ℕ) → 1 ≤ a → a < b → b ≤ ranks → (Gives g ids handed file a → ⊥) → (Gives g ids handed file b → ⊥)
      → Compared g ids handed file ranks 2 c p
