-- What is collected: each piece is a part of what its node handed in, and stands at its entry.
use native.Mathlib.Omega.{arith}
use mathlib.Core.Path.{◌≡◌, sym, ap, ap₂, ◌∙◌}
use mathlib.Core.List.{List}
use Prim.Native.Nat.{ℕ, ◌+◌, ◌-◌, ◌*◌, ◌≤◌, ◌<◌, min}
use native.Mathlib.Nat.{add-mul, one-mul, zero-mul, mul-le-mul_right}
use lib.ListN.{length, get_or, take, drop}
use lib.Seq.{get_or-take, get_or-drop, ext_get_or}
use Rattle.letters.specs.Laid.{Laid}
use Rattle.letters.proofs.Laying.{laid_as}
use Rattle.shifts.specs.Rule.{t}
use Rattle.system.proofs.System.{sequence_inside}
use Rattle.group.specs.declared.Group.{Group}
use Rattle.group.specs.Ranges.{InRange, NodeOf, most_letters}
use Rattle.lengths.specs.Lengths.{file_letters, packet_start, packet_length, node_letters}
use Rattle.lengths.proofs.Sizes.{packet_fits}
use Rattle.sequences.specs.Lists.{ranked}
use Rattle.matrix.specs.Matrix.{before, entry_number, Free}
use Rattle.matrix.specs.Pieces.{piece_in}
use Rattle.matrix.proofs.Columns.{before_first, before_next, before_all}
use Rattle.matrix.proofs.Files.{length_as_file, as_file_at}
use Rattle.matrix.proofs.Product.{shift_rises}
use Rattle.agreement.specs.Agreement.{letters_of, handed_by, letter_at}
use Rattle.agreement.specs.Steps.Trying.{kept_rank, kept_ids, collected}
use Rattle.agreement.proofs.Handed.{ends_inside, handed_at}
use Rattle.agreement.proofs.Choices.{Choice, choice_without, kept_id}
use Rattle.present.specs.Steps.Places.{Present, StartsAt}
use Rattle.present.proofs.Present.{rank_node, letters_small}
use Rattle.gathering.specs.Steps.Gathered.{collected_without}

module _ (g : Group) (ids handed : List ℕ) (b : ℕ) (here : Present g ids handed) where
  choice : Choice g ids (kept_rank b)
  choice = choice_without g ids here.chosen b (omega (arith, here.spare))

  abbrev kept : List ℕ
  kept = kept_ids g ids (kept_rank b)

  pub length_collected : length (collected_without g ids handed b) ≡ file_letters g
  unfolding collected
  length_collected = length_as_file 0 g here.chosen.group (λ v u p. letter_at (piece_in g (ranked kept v) v u (handed_by g ids handed (kept_rank b v))) p)

  module _ (v u : ℕ) (free : Free g v u) where
    -- the rank is one of those that are present
    pub rank_low : 1 ≤ kept_rank b v
    rank_low = choice.low v free.row free.upper

    pub rank_high : kept_rank b v ≤ length ids
    rank_high = choice.high v free.row free.upper

    pub piece_node : NodeOf g (ranked ids (kept_rank b v))
    piece_node = rank_node g ids here.chosen (kept_rank b v) rank_low rank_high

    -- where its piece starts in what was handed in
    abbrev pub piece_at : ℕ
    piece_at = letters_of g ids (kept_rank b v - 1) + packet_start g (ranked ids (kept_rank b v)) u + t (ranked ids (kept_rank b v)) v

    -- it ends within what its node handed in
    piece_in_node : packet_start g (ranked ids (kept_rank b v)) u + t (ranked ids (kept_rank b v)) v + g.l ≤ node_letters g (ranked ids (kept_rank b v))
    unfolding packet_length
    piece_in_node =
        omega (
          arith,
          packet_fits g (ranked ids (kept_rank b v)) piece_node u (omega (arith, free.row, free.within)) free.column,
          shift_rises (ranked ids (kept_rank b v)) v g.d piece_node.low free.row (omega (arith, free.within, free.column)),
        )

    pub piece_fits : piece_at + g.l ≤ length handed
    piece_fits = omega (arith, piece_in_node, ends_inside g ids handed here.long (kept_rank b v) rank_low rank_high)

    -- a letter of it stands where the collector wants it
    pub collected_here :
        (q : ℕ) → q < g.l → get_or (collected_without g ids handed b) ((entry_number g.k v u - 1) * g.l + q) 0 ≡ get_or handed (piece_at + q) 0
    unfolding collected piece_in
    collected_here q h =
        ap (λ i. get_or (collected_without g ids handed b) ((entry_number g.k v u - 1) * g.l + i) 0) (one_back q)
        ∙ sym (sequence_inside 0 (collected_without g ids handed b) g.l (entry_number g.k v u) (q + 1) (omega arith) (omega arith))
        ∙ as_file_at 0 g here.chosen.group (λ v u p. letter_at (piece_in g (ranked kept v) v u (handed_by g ids handed (kept_rank b v))) p) u v (q + 1)
        (omega (arith, free.row, free.within)) free.column free.row (omega (arith, free.within, free.upper)) (omega arith) (omega arith)
        ∙ ap (λ i. letter_at (piece_in g i v u (handed_by g ids handed (kept_rank b v))) (q + 1)) (kept_id g ids here.chosen (kept_rank b) choice v free.row free.upper)
        ∙ ap (λ i. get_or (take g.l (drop (packet_start g node u + t node v) (handed_by g ids handed (kept_rank b v)))) i 0) (sym (one_back q))
        ∙ get_or-take g.l (drop (packet_start g node u + t node v) (handed_by g ids handed (kept_rank b v))) q 0 h
        ∙ get_or-drop (packet_start g node u + t node v) (handed_by g ids handed (kept_rank b v)) q 0
        ∙ handed_at g ids handed here.long (kept_rank b v) rank_low rank_high (packet_start g node u + t node v + q) (omega (arith, piece_in_node))
        ∙ ap (λ i. get_or handed i 0) (together (letters_of g ids (kept_rank b v - 1)) (packet_start g node u) (t node v))
      where
        node : ℕ
        node = ranked ids (kept_rank b v)

        one_back : (q : ℕ) → q ≡ q + 1 - 1
        one_back q = omega arith

        together : (x y z : ℕ) → x + (y + z + q) ≡ x + y + z + q
        together x y z = omega arith

    -- so a piece that is copied there is laid as it should be
    pub piece_laid :
        (before after : List ℕ) (from at : ℕ) → from ≡ piece_at → at ≡ (entry_number g.k v u - 1) * g.l
        → Laid before after at (at + g.l) (λ p. get_or handed (from + (p - at)) 0)
        → Laid before after at (at + g.l) (λ q. get_or (collected_without g ids handed b) q 0)
    piece_laid before after from at is place laid =
        laid_as before after at (at + g.l) (λ p. get_or handed (from + (p - at)) 0) (λ q. get_or (collected_without g ids handed b) q 0)
        (λ p lo hi.
        ap (λ i. get_or handed (i + (p - at)) 0) is
        ∙ sym (collected_here (p - at) (omega arith))
        ∙ ap (λ i. get_or (collected_without g ids handed b) i 0) (ap (λ i. i + (p - at)) (sym place) ∙ behind p lo)) laid
      where
        behind : (p : ℕ) → at ≤ p → at + (p - at) ≡ p
        behind p h = omega arith

    -- the same by what the code has read: the rank, where its letters start, where the packet starts in them, and the shift
    module _ (starts : List ℕ) (s : StartsAt g ids starts) (r : ℕ) (is : r ≡ kept_rank b v) where
      pub read_low : 1 ≤ r
      read_low = omega (arith, rank_low)

      pub read_high : r ≤ length ids
      read_high = omega (arith, rank_high)

      pub read_node : NodeOf g (get_or ids (r - 1) 0)
      unfolding ranked
      read_node = rw is piece_node

      module _ (packet shift : ℕ) (packets : packet ≡ packet_start g (get_or ids (r - 1) 0) u) (shifts : shift ≡ t (get_or ids (r - 1) 0) v) where
        pub read_from : get_or starts (r - 1) 0 + packet + shift ≡ piece_at
        unfolding ranked
        read_from =
            ap₂ ◌+◌
            (ap₂ ◌+◌ (s.before (r - 1) (omega (arith, rank_high)) ∙ ap (λ i. letters_of g ids (i - 1)) is)
            (packets ∙ ap (λ i. packet_start g (get_or ids (i - 1) 0) u) is))
            (shifts ∙ ap (λ i. t (get_or ids (i - 1) 0) v) is)

        pub read_small : get_or starts (r - 1) 0 + packet + shift ≤ 16 * most_letters
        read_small = omega (arith, read_from, piece_fits, here.long, letters_small g ids here.chosen (length ids) (omega arith))

  -- all columns laid: that is what is collected
  pub all_collected :
      (before after : List ℕ) (end : ℕ) → length before ≡ file_letters g → end ≡ file_letters g
      → Laid before after 0 end (λ q. get_or (collected_without g ids handed b) q 0) → after ≡ collected_without g ids handed b
  all_collected before after end long done laid =
      ext_get_or 0 after (collected_without g ids handed b) (laid.same_length ∙ long ∙ sym length_collected)
      (λ q h. laid.laid q (omega arith) (omega (arith, laid.same_length)))

-- the entries of a column, from the first to the last
pub column_entry : (g : Group) (u s v : ℕ) → InRange g → 1 ≤ u → u ≤ g.d → s ≡ min u g.k → 1 ≤ v → v ≤ s → Free g v u
column_entry g u s v r lu hu e lv hv = record { group = r; row = lv; within = omega arith; upper = omega arith; column = hu }

-- where a column's entries start and end
pub column_first : (g : Group) (u : ℕ) → before g.k u * g.l ≡ (entry_number g.k 1 u - 1) * g.l
unfolding entry_number
column_first g u = ap (λ m. m * g.l) first
  where
    first : before g.k u ≡ before g.k u + 1 - 1
    first = omega arith

pub entry_next : (g : Group) (v u : ℕ) → 1 ≤ v → (entry_number g.k v u - 1) * g.l + g.l ≡ (entry_number g.k (v + 1) u - 1) * g.l
unfolding entry_number
entry_next g v u lo = sym (ap (λ m. m * g.l) next ∙ add-mul (before g.k u + v - 1) 1 g.l ∙ ap (λ m. (before g.k u + v - 1) * g.l + m) (one-mul g.l))
  where
    next : before g.k u + (v + 1) - 1 ≡ before g.k u + v - 1 + 1
    next = omega arith

pub entries_rise : (g : Group) (v u : ℕ) → 1 ≤ v → (entry_number g.k 1 u - 1) * g.l ≤ (entry_number g.k v u - 1) * g.l
unfolding entry_number
entries_rise g v u lo = mul-le-mul_right g.l later
  where
    later : before g.k u + 1 - 1 ≤ before g.k u + v - 1
    later = omega arith

pub column_last : (g : Group) (s u : ℕ) → 2 ≤ g.k → 1 ≤ u → s ≡ min u g.k → (entry_number g.k (s + 1) u - 1) * g.l ≡ before g.k (u + 1) * g.l
unfolding entry_number
column_last g s u lk lu e = ap (λ m. m * g.l) last
  where
    last : before g.k u + (s + 1) - 1 ≡ before g.k (u + 1)
    last = omega (arith, before_next g.k u (omega arith) lu)

-- where the columns start and end
pub columns_first : (g : Group) → InRange g → before g.k (0 + 1) * g.l ≡ 0
columns_first g r = ap (λ m. m * g.l) (before_first g.k (omega (arith, r.k_low))) ∙ zero-mul g.l

pub columns_rise : (g : Group) (u : ℕ) → InRange g → 1 ≤ u → before g.k u * g.l ≤ before g.k (u + 1) * g.l
columns_rise g u r lo = mul-le-mul_right g.l later
  where
    later : before g.k u ≤ before g.k (u + 1)
    later = omega (arith, before_next g.k u (omega (arith, r.k_low)) lo)

pub columns_last : (g : Group) (u : ℕ) → InRange g → u ≡ g.d → before g.k (u + 1) * g.l ≡ file_letters g
unfolding file_letters
columns_last g u r e = ap (λ m. before g.k (m + 1) * g.l) e ∙ ap (λ m. m * g.l) (before_all g r)
