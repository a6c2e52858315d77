-- The heads that a share may have (docs/SCHEME.md, 9): their bytes, the numbers that they may have, and how they are read back. What tells one kind
-- from another is its row in the table of `kinds`; all of this is the same for every kind.
use Rattle.std.specs.Prelude.{◌≡◌, Bool, true, List, ◌∷◌, ◌++◌, ℕ, ◌+◌, ◌^◌, ◌<◌, get_or}
use Rattle.group.specs.Ranges.{group_of, between, most_nodes}
use Rattle.records.specs.Records.{number, number_in}
use Rattle.records.specs.Steps.Ranges.{range_tests}
use Rattle.kinds.specs.Kinds.{row_for_kind, is_kind, head_size, InRow, row_total}
use Rattle.layout.specs.Layout.{Layout}
use Rattle.heads.specs.declared.Head.{Head}

-- the head: its kind, n, k, d, node, L in as many bytes as the kind gives it, batch (4 bytes)
abbrev pub head_record : Head → List ℕ
head_record h =
    h.kind
    ∷ h.group.n
    ∷ h.group.k
    ∷ h.group.d
    ∷ h.node
    ∷ (number (row_for_kind h.kind).length_bytes h.group.l ++ number 4 h.batch)

-- its numbers are in range: there is such a kind, and its row has them
pub record HeadNumbers (h : Head) : Type 0 where
  pub kind : is_kind h.kind ≡ true
  pub numbers : InRow (row_for_kind h.kind) h.group h.node
  pub batch : h.batch < 2 ^ 32

-- T by the head's numbers; 0 where they are out of range
abbrev pub head_total : Head → ℕ
head_total h = row_total (row_for_kind h.kind) h.group h.node

-- the head's numbers as the bytes have them; a byte that isn't there counts as 0
unfoldable pub head_in : List ℕ → Head
head_in xs =
    let wide = (row_for_kind (get_or xs 0 0)).length_bytes in
    record {
      group = group_of (get_or xs 1 0) (get_or xs 2 0) (get_or xs 3 0) (number_in wide 5 xs);
      node = get_or xs 4 0;
      batch = number_in 4 (5 + wide) xs;
      kind = get_or xs 0 0;
    }

-- the test at each offset: a number against those before it, and L's bytes one by one; the batch may be any
abbrev pub head_tests : Head → List Bool
head_tests h =
    let row = row_for_kind h.kind in
    is_kind h.kind
    ∷ between 3 most_nodes h.group.n
    ∷ between 2 (row.most_k h.group.n) h.group.k
    ∷ between (row.least_d h.group.n h.group.k) (row.mostD h.group.n h.group.k) h.group.d
    ∷ between 1 h.group.n h.node
    ∷ range_tests row.length_bytes row.leastL row.most_l h.group.l

-- the layout of all kinds
abbrev pub heads : Layout Head
heads =
    record {
      head_record = head_record;
      Allowed = HeadNumbers;
      total = head_total;
      head_size = head_size;
      head_in = head_in;
      head_tests = λ xs. head_tests (head_in xs);
    }
