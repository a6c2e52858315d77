-- The ranges and the lengths of previews, document 02's Ask 4 (docs/SCHEME.md, 17), and the refusals that follow from the ranges.
-- A group of previews is a group whose d is 0: previews are never repaired.
use Rattle.std.specs.Prelude.{◌≡◌, Bool, ℕ, ◌+◌, ◌*◌, ◌≤◌, eqb}
use Rattle.letters.specs.Places.{both}
use Rattle.shifts.specs.Rule.{preview_shift}
use Rattle.group.specs.declared.Group.{Group}
use Rattle.group.specs.Answers.{unless, first}
use Rattle.group.specs.Ranges.{between, most_nodes, id_refusal}

-- the most letters in a sequence of a preview
abbrev pub longest_preview : ℕ
longest_preview = 4096

-- the most that a node moves a sequence of a preview, i(j-1) at node 16 and sequence 16
abbrev pub widest_preview : ℕ
widest_preview = 240

-- n is 3 to 16, 2 <= k <= n, and d is 0
unfoldable pub preview_numbers_in_range : Group → Bool
preview_numbers_in_range g = both (between 3 most_nodes g.n) (both (between 2 g.n g.k) (eqb g.d 0))

-- L is 1 to 4,096
unfoldable pub preview_length_in_range : Group → Bool
preview_length_in_range g = between 1 longest_preview g.l

-- refusals 1 and 2
unfoldable pub preview_group_refusal : Group → ℕ
unfolding preview_numbers_in_range preview_length_in_range
preview_group_refusal g = first (unless (preview_numbers_in_range g) 1) (unless (preview_length_in_range g) 2)

-- refusals 1, 2 and 3 of a call that is handed one node
unfoldable pub preview_node_refusal : Group → ℕ → ℕ
unfolding preview_group_refusal id_refusal
preview_node_refusal g i = first (preview_group_refusal g) (id_refusal g i)

-- A group of previews whose numbers are all in range.
pub record PreviewRange (g : Group) : Type 0 where
  pub n_low : 3 ≤ g.n
  pub n-high : g.n ≤ most_nodes
  pub k_low : 2 ≤ g.k
  pub k-high : g.k ≤ g.n
  pub no_d : g.d ≡ 0
  pub l_low : 1 ≤ g.l
  pub l_high : g.l ≤ longest_preview

-- A node of such a group.
pub record PreviewNode (g : Group) (i : ℕ) : Type 0 where
  pub group : PreviewRange g
  pub low : 1 ≤ i
  pub high : i ≤ g.n

-- the letters of a file: k sequences of L
unfoldable pub preview_file : Group → ℕ
preview_file g = g.k * g.l

-- the letters of node i's one packet: L + t(i,k)
unfoldable pub preview_packet : Group → ℕ → ℕ
unfolding preview_shift
preview_packet g i = g.l + preview_shift i g.k
