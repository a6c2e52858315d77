-- What functions leave between two statements: for contracts of inner functions alone.
use Rattle.std.specs.Prelude.{◌≡◌, List, ◌⊎◌, ℕ, ◌+◌, ◌-◌, ◌≤◌, ◌<◌, length, get_or}
use Rattle.std.specs.Int.Bits.{bit_xor}
use Rattle.letters.specs.Algebra.{xors}
use Rattle.letters.specs.Laid.{Laid}
use Rattle.system.specs.System.{sequence}
use Rattle.tiles.specs.Tile.{start_of, run_of, read_before, TakenTo}

-- The letters from index `from` on were added to `count` letters from index `to` on, as they were before.
abbrev pub AddedFrom : List ℕ → List ℕ → ℕ → ℕ → ℕ → Type 0
AddedFrom xs ys to from count = Laid xs ys to (to + count) (λ i. bit_xor (get_or xs i 0) (get_or xs (from + (i - to)) 0))

-- Only letters of the run of rank b changed.
pub record OnlyRank (n : ℕ) (t : ℕ → ℕ → ℕ) (done count b : ℕ) (xs ys : List ℕ) : Type 0 where
  pub same_length : length ys ≡ length xs
  pub kept : (i : ℕ) → (i < start_of t n done b) ⊎ (start_of t n done b + count ≤ i) → get_or ys i 0 ≡ get_or xs i 0

-- What equation b reads of sequence a from before the tile was taken out of its run.
pub record TakesOne (n : ℕ) (t : ℕ → ℕ → ℕ) (done count b a : ℕ) (xs ys : List ℕ) : Type 0 where
  pub only : OnlyRank n t done count b xs ys
  pub added :
      (p : ℕ) → 1 ≤ p → p ≤ count
      → run_of 0 t done count (sequence 0 ys n) b p ≡ bit_xor (run_of 0 t done count (sequence 0 xs n) b p) (read_before 0 t done (sequence 0 xs n) b p a)

-- And of the sequences 1..c.
pub record TakesAll (n : ℕ) (t : ℕ → ℕ → ℕ) (done count b c : ℕ) (xs ys : List ℕ) : Type 0 where
  pub only : OnlyRank n t done count b xs ys
  pub taken : TakenTo xors t done count (sequence 0 xs n) b c (run_of 0 t done count (sequence 0 ys n) b)
