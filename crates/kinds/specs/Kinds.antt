-- The table of kinds: what each kind of head says of its numbers, and how many letters its shares have (documents 01 and 02; docs/SCHEME.md, 9).
-- The body of every kind is n, k, d, node, one byte each, L, and the batch, four bytes. A later kind is a row more.
use Rattle.std.specs.Prelude.{Bool, cond, ℕ, ◌+◌, ◌-◌, ◌≤◌, leb, eqb}
use Rattle.letters.specs.Places.{either}
use Rattle.group.specs.declared.Group.{Group}
use Rattle.group.specs.Answers.{if_fine}
use Rattle.group.specs.Ranges.{most_nodes, longest, node_refusal}
use Rattle.lengths.specs.Lengths.{node_letters}
use Rattle.preview_numbers.specs.Previews.{longest_preview, preview_node_refusal, preview_packet}

-- What a kind says. That n is 3 to 16, k at least 2 and the node one of 1..n is so in all of them.
pub record KindRow : Type 0 where
  -- the most k, by n
  pub most_k : ℕ → ℕ
  -- the least and the most d, by n and k
  pub least_d : ℕ → ℕ → ℕ
  pub mostD : ℕ → ℕ → ℕ
  -- the bytes of L in the body, and its range
  pub length_bytes : ℕ
  pub leastL : ℕ
  pub most_l : ℕ
  -- the refusals 1, 2 and 3 of a node with these numbers, and T, the letters that it holds
  pub refusal : Group → ℕ → ℕ
  pub letters : Group → ℕ → ℕ

-- The packets of the repairing code have two kinds: 1 where L is at most this, and 6 where it is more.
abbrev pub longest_of_kind_one : ℕ
longest_of_kind_one = 4096

abbrev pub kind_for_length : ℕ → ℕ
kind_for_length l = cond (leb l longest_of_kind_one) 1 6

-- the refusals of a node's packets as this kind: 1, 2 and 3 where it serves their L, and else 2
unfoldable pub packets_refusal : ℕ → Group → ℕ → ℕ
packets_refusal kind g i = cond (eqb kind (kind_for_length g.l)) (node_refusal g i) 2

-- the packets of the repairing code as this kind: k <= d <= n-1, L in so many bytes and in this range, T = d(L + t(i,d))
abbrev pub packets_row : (kind bytes least most : ℕ) → KindRow
packets_row kind bytes least most =
    record {
      most_k = λ n. n - 1;
      least_d = λ n k. k;
      mostD = λ n k. n - 1;
      length_bytes = bytes;
      leastL = least;
      most_l = most;
      refusal = packets_refusal kind;
      letters = node_letters;
    }

-- Kind 1: L of two bytes, up to 4,096.
abbrev pub repairing : KindRow
repairing = packets_row 1 2 1 longest_of_kind_one

-- Kind 6: L of four bytes, the rest.
abbrev pub repairing_longer : KindRow
repairing_longer = packets_row 6 4 (longest_of_kind_one + 1) longest

-- Kind 5, a packet of previews: k <= n, d is 0, L of two bytes, T = L + t(i,k) by the previews' rule.
abbrev pub previews : KindRow
previews =
    record {
      most_k = λ n. n;
      least_d = λ n k. 0;
      mostD = λ n k. 0;
      length_bytes = 2;
      leastL = 1;
      most_l = longest_preview;
      refusal = preview_node_refusal;
      letters = preview_packet;
    }

-- a number that is no kind: no share has it, and it refuses everything
abbrev pub no_kind : KindRow
no_kind =
    record {
      most_k = λ n. n - 1;
      least_d = λ n k. k;
      mostD = λ n k. n - 1;
      length_bytes = 2;
      leastL = 1;
      most_l = longest_of_kind_one;
      refusal = λ g i. 1;
      letters = λ g i. 1;
    }

-- the table
unfoldable pub row_for_kind : ℕ → KindRow
row_for_kind kind = cond (eqb kind 1) repairing (cond (eqb kind 5) previews (cond (eqb kind 6) repairing_longer no_kind))

-- the kinds of head that there are
unfoldable pub is_kind : ℕ → Bool
is_kind kind = either (eqb kind 1) (either (eqb kind 5) (eqb kind 6))

-- The numbers of a head are in the ranges of a row.
pub record InRow (row : KindRow) (g : Group) (i : ℕ) : Type 0 where
  pub n_low : 3 ≤ g.n
  pub n-high : g.n ≤ most_nodes
  pub k_low : 2 ≤ g.k
  pub k-high : g.k ≤ row.most_k g.n
  pub d_low : row.least_d g.n g.k ≤ g.d
  pub d_high : g.d ≤ row.mostD g.n g.k
  pub node_low : 1 ≤ i
  pub node-high : i ≤ g.n
  pub l_low : row.leastL ≤ g.l
  pub l_high : g.l ≤ row.most_l

-- T by the numbers of a head of this row; 0 where they are refused
abbrev pub row_total : KindRow → Group → ℕ → ℕ
row_total row g i = if_fine (row.refusal g i) (row.letters g i) 0

-- the bytes of a head of this kind: the kind, n, k, d, node, L, and the batch
unfoldable pub head_size : ℕ → ℕ
head_size kind = 5 + (row_for_kind kind).length_bytes + 4
