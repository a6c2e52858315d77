-- The file's sequences, the symmetric matrix with its zero corner, and a node's packets: document 01's "File, matrix, packets" (docs/SCHEME.md, 3 and 4).
use Rattle.std.proofs.Math.Bool.{cond}
use Rattle.std.specs.Prelude.{List, ℕ, ◌+◌, ◌-◌, ◌*◌, ◌/◌, ◌≤◌, min, max, leb}
use Rattle.letters.specs.Algebra.{Adding}
use Rattle.shifts.specs.Rule.{t}
use Rattle.system.specs.System.{sequence}
use Rattle.group.specs.declared.Group.{Group}
use Rattle.group.specs.Ranges.{InRange}
use Rattle.lengths.specs.Lengths.{packet_length}
use Rattle.sequences.specs.Lists.{run, joined}
use Rattle.sequences.specs.Moved.{moved}

-- how many sequences stand before column u: entry (v,u) is sequence u(u-1)/2 + v for u <= k, and else k(k+1)/2 + (u-k-1)k + v
unfoldable pub before : ℕ → ℕ → ℕ
before k u = cond (leb u k) (u * (u - 1) / 2) (k * (k + 1) / 2 + (u - k - 1) * k)

-- the number of the sequence at entry (v,u), for v <= min(u,k)
unfoldable pub entry_number : ℕ → ℕ → ℕ → ℕ
unfolding before
entry_number k v u = before k u + v

-- where entry (v,u) starts in the file, on either side of the diagonal
unfoldable pub entry_start : Group → ℕ → ℕ → ℕ
unfolding entry_number
entry_start g v u = (entry_number g.k (min v u) (max v u) - 1) * g.l

-- letters given by entry and place, laid out as a file: column by column, and in column u the free entries from v = 1 to min(u,k)
unfoldable pub as_file : {A : Type 0} → Group → (ℕ → ℕ → ℕ → A) → List A
unfolding run joined
as_file g f = joined g.d (λ u. joined (min u g.k) (λ v. run g.l (f v u)))

-- (v,u) is a free entry: v <= min(u,k), u <= d
pub record Free (g : Group) (v u : ℕ) : Type 0 where
  pub group : InRange g
  pub row : 1 ≤ v
  pub within : v ≤ u
  pub upper : v ≤ g.k
  pub column : u ≤ g.d

module _ {A : Type 0} (𝓐 : Adding A) (g : Group) (file : List A) where
  -- letter p of m(v,u): symmetric, and all zero where both v and u exceed k
  unfoldable pub matrix : ℕ → ℕ → ℕ → A
  unfolding sequence entry_number
  matrix v u p =
      cond (leb (min v u) g.k) (sequence 𝓐.none file g.l (entry_number g.k (min v u) (max v u)) p) 𝓐.none

  -- letter p of packet j of node i: the sum over u = 1..d of letter p - t(i,u) of m(u,j)
  unfoldable pub packet_letter : ℕ → ℕ → ℕ → A
  unfolding moved matrix t
  packet_letter i j p = moved 𝓐 g.d (t i) (λ u. matrix u j) p

  -- packet j of node i
  unfoldable pub packet : ℕ → ℕ → List A
  unfolding run packet_letter packet_length
  packet i j = run (packet_length g i j) (packet_letter i j)

  -- what node i holds: its d packets one after another
  unfoldable pub packets : ℕ → List A
  unfolding joined packet
  packets i = joined g.d (packet i)
