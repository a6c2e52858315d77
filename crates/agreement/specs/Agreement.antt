-- Whether the nodes that are present agree, and which one alone is odd: document 02's Ask 7 (docs/SCHEME.md, 18). It speaks of files and packets alone.
use Rattle.std.specs.Prelude.{◌≡◌, List, ℕ, ◌-◌, ◌≤◌, ◌<◌, length, get_or, take, drop}
use Rattle.letters.specs.Algebra.{xors, counts, sum}
use Rattle.group.specs.declared.Group.{Group}
use Rattle.lengths.specs.Lengths.{file_letters, node_letters}
use Rattle.sequences.specs.Lists.{ranked}
use Rattle.matrix.specs.Matrix.{packets}

-- how many letters the nodes of the first so many ranks hold: T of each
unfoldable pub letters_of : Group → List ℕ → ℕ → ℕ
unfolding sum node_letters ranked
letters_of g ids ranks = sum counts ranks (λ v. node_letters g (ranked ids v))

-- what the node of rank v handed in: the nodes' packets stand one after another, in the order of their ids
unfoldable pub handed_by : Group → List ℕ → List ℕ → ℕ → List ℕ
unfolding letters_of node_letters ranked
handed_by g ids handed v = take (node_letters g (ranked ids v)) (drop (letters_of g ids (v - 1)) handed)

-- letter q of a list, counted from 1
abbrev pub letter_at : List ℕ → ℕ → ℕ
letter_at xs q = get_or xs (q - 1) 0

-- the place, from 1, of the first letter that is another than the right one
pub record FirstWrong (held right : List ℕ) (place : ℕ) : Type 0 where
  pub from_one : 1 ≤ place
  pub within : place ≤ length held
  pub before : (q : ℕ) → 1 ≤ q → q < place → letter_at held q ≡ letter_at right q
  pub wrong : letter_at held place ≡ letter_at right place → ⊥

module _ (g : Group) (ids handed : List ℕ) where
  -- this file gives the node of rank v what it handed in
  abbrev pub Gives : List ℕ → ℕ → Type 0
  Gives file v = packets xors g file (ranked ids v) ≡ handed_by g ids handed v

  -- all nodes share this file
  pub record Shared (file : List ℕ) : Type 0 where
    pub long : length file ≡ file_letters g
    pub gives : (v : ℕ) → 1 ≤ v → v ≤ length ids → Gives file v

  -- all without the node of rank b share it
  pub record SharedWithout (b : ℕ) (file : List ℕ) : Type 0 where
    pub long : length file ≡ file_letters g
    pub gives : (v : ℕ) → 1 ≤ v → v ≤ length ids → (v ≡ b → ⊥) → Gives file v

  -- all agree: some file gives them all
  abbrev pub AllAgree : Type 0
  AllAgree = (file : List ℕ) × Shared file

  -- the node of rank b alone is odd: not all agree, but all without it do
  pub record OddAlone (b : ℕ) : Type 0 where
    pub low : 1 ≤ b
    pub high : b ≤ length ids
    pub not_all : AllAgree → ⊥
    pub others : (file : List ℕ) × SharedWithout b file

  -- more than one is wrong: neither
  pub record SeveralWrong : Type 0 where
    pub not_all : AllAgree → ⊥
    pub not-one : (b : ℕ) → OddAlone b → ⊥
