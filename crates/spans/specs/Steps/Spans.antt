-- Where a run of a tile reads a sequence from before the tile.
use Rattle.std.specs.Prelude.{◌≡◌, ℕ, ◌+◌, ◌-◌, ◌≤◌, ◌<◌, min}
use Rattle.system.specs.Order.{delay}

-- Letter p of a run reads place (reach + (p - 1)) - moved of a sequence, a signed number. Of its letters 1..count those up to `skip` read below place 1, the `len` after them
-- read `place` and the places after it, none above `top`, and the others read above `top`. As places rise with p, it is enough to say so of the letters at the ends.
pub record Reads (reach moved top count skip place len : ℕ) : Type 0 where
  pub inside : skip + len ≤ count
  -- letter `skip` reads below place 1
  pub below : 1 ≤ skip → reach + skip ≤ moved + 1
  pub from_one : 1 ≤ place
  pub up_to : place + len ≤ top + 1
  -- the letter after it reads `place`
  pub here : 1 ≤ len → place + moved ≡ reach + skip
  -- and the first that isn't read any more is above `top`
  pub above : skip + len < count → top + moved < reach + (skip + len)

-- Where the run of rank b reads the letters of sequence a that lie in rounds up to `done`: the run starts after letter done - delay b of its piece, and of the sequence
-- the first done - delay a letters lie in these rounds, if it has as many.
abbrev pub ReadsBefore : ℕ → (ℕ → ℕ → ℕ) → ℕ → ℕ → ℕ → ℕ → ℕ → ℕ → ℕ → Type 0
ReadsBefore n t done count b a = Reads (((done - delay t b) + 1) + t b b) (t b a) (min n (done - delay t a)) count

-- The run of rank b lies inside its sequence, which is one of s.
pub record RunPlaced (s n : ℕ) (t : ℕ → ℕ → ℕ) (done count b : ℕ) : Type 0 where
  pub some_rank : 1 ≤ b
  pub few-ranks : b ≤ s
  pub begun : delay t b ≤ done
  pub not_over : done + count ≤ n + delay t b

-- Sequence a is one of s, and has begun.
pub record HasBegun (s : ℕ) (t : ℕ → ℕ → ℕ) (done a : ℕ) : Type 0 where
  pub some_rank : 1 ≤ a
  pub few-ranks : a ≤ s
  pub begun : delay t a ≤ done
