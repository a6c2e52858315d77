-- The ranges of document 01's "Group numbers and letters" (docs/SCHEME.md, 1), and the refusals that follow from them.
use Rattle.std.specs.Prelude.{Bool, ℕ, ◌-◌, ◌+◌, ◌*◌, ◌≤◌, leb, eqb}
use Rattle.letters.specs.Places.{both}
use Rattle.group.specs.declared.Group.{Group}
use Rattle.group.specs.Answers.{unless, first}

-- the group of these numbers
abbrev pub group_of : ℕ → ℕ → ℕ → ℕ → Group
group_of n k d l = record { n = n; k = k; d = d; l = l }

-- x is one of lo..hi
abbrev pub between : ℕ → ℕ → ℕ → Bool
between lo hi x = both (leb lo x) (leb x hi)

-- the most nodes, and so the most packets of a node, of which there are fewer
abbrev pub most_nodes : ℕ
most_nodes = 16

abbrev pub most_packets : ℕ
most_packets = 15

-- the most letters in a sequence
abbrev pub longest : ℕ
longest = 1048576

-- the most that a node moves a column, t(16,15)
abbrev pub widest : ℕ
widest = 210

-- the longest packet, L + t(i,d), and the most letters of a node
abbrev pub longest_packet : ℕ
longest_packet = longest + widest

abbrev pub most_letters : ℕ
most_letters = most_packets * longest_packet

-- no file has more sequences; the exact most is less
abbrev pub most_sequences : ℕ
most_sequences = most_packets * most_packets

-- n is 3 to 16, and 2 <= k <= d <= n-1
unfoldable pub numbers_in_range : Group → Bool
numbers_in_range g = both (between 3 most_nodes g.n) (both (between 2 g.d g.k) (leb g.d (g.n - 1)))

-- L is 1 to 1,048,576
unfoldable pub length_in_range : Group → Bool
length_in_range g = between 1 longest g.l

-- refusals 1 and 2
unfoldable pub group_refusal : Group → ℕ
unfolding numbers_in_range length_in_range
group_refusal g = first (unless (numbers_in_range g) 1) (unless (length_in_range g) 2)

-- refusal 3 of one id
unfoldable pub id_refusal : Group → ℕ → ℕ
id_refusal g i = unless (between 1 g.n i) 3

-- refusals 1, 2 and 3 of a call that is handed one node
unfoldable pub node_refusal : Group → ℕ → ℕ
unfolding group_refusal id_refusal
node_refusal g i = first (group_refusal g) (id_refusal g i)

-- refusals 5 and 6: a lent input or output has exactly the wanted length
abbrev pub input_refusal : ℕ → ℕ → ℕ
input_refusal wanted has = unless (eqb has wanted) 5

abbrev pub output_refusal : ℕ → ℕ → ℕ
output_refusal wanted has = unless (eqb has wanted) 6

-- A group whose numbers are all in range.
pub record InRange (g : Group) : Type 0 where
  pub n_low : 3 ≤ g.n
  pub n-high : g.n ≤ most_nodes
  pub k_low : 2 ≤ g.k
  pub k-high : g.k ≤ g.d
  pub d_high : g.d + 1 ≤ g.n
  pub l_low : 1 ≤ g.l
  pub l_high : g.l ≤ longest

-- A node of such a group.
pub record NodeOf (g : Group) (i : ℕ) : Type 0 where
  pub group : InRange g
  pub low : 1 ≤ i
  pub high : i ≤ g.n
