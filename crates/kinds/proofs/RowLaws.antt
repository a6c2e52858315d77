-- Each row leaves every number some value, and has letters exactly for the numbers in its ranges.
use mathlib.Core.Path.{◌≡◌, refl, sym, ap, ap₂, ◌∙◌}
use mathlib.Core.Bool.{Bool, true, false, cond}
use mathlib.Core.Logic.{◌⊎◌, inl, inr, ⊎_elim}
use Prim.Native.Nat.{ℕ, zero, suc, ◌+◌, ◌^◌, ◌≤◌, ◌<◌}
use native.Mathlib.Omega.{arith}
use lib.Dec.{leb, ltb, eqb}
use borrow.Author.Tests.{eqb-true, eq-eqb, ne_eqb, le-leb, lt-leb, le-ltb, lt-ltb}
use Rattle.letters.specs.Places.{either}
use Rattle.letters.proofs.Cases.{le_or_lt}
use Rattle.group.specs.declared.Group.{Group}
use Rattle.group.specs.Answers.{if_fine}
use Rattle.group.specs.Ranges.{longest, node_refusal, NodeOf}
use Rattle.group.proofs.InRange.{node_of, of_node}
use Rattle.lengths.specs.Lengths.{node_letters}
use Rattle.lengths.proofs.Sizes.{node_at_most, node_some}
use Rattle.preview_numbers.specs.Previews.{PreviewNode}
use Rattle.preview_numbers.proofs.InRange.{preview_node_of, of_preview_node}
use Rattle.preview_numbers.proofs.Sizes.{preview_packet_at_most, preview_packet_some}
use Rattle.records.specs.Records.{total_limit}
use Rattle.records.specs.Steps.Ranges.{least_left, most_left}
use Rattle.records.proofs.RangeBytes.{AnyBetween, least_of_one}
use Rattle.kinds.specs.Kinds.{KindRow, longest_of_kind_one, kind_for_length, packets_refusal, packets_row, repairing, repairing_longer, previews, no_kind, row_for_kind, is_kind, InRow, row_total, head_size}
use Rattle.kinds.specs.Steps.Rows.{limits_in, limits_at, length_test}

-- What is asked of a row.
pub record RowLaws (row : KindRow) : Type 0 where
  -- every number has some value that it can have, after those before it, and room for each in its bytes
  pub some_k : (n : ℕ) → 3 ≤ n → n ≤ 16 → (2 ≤ row.most_k n) × (row.most_k n < 256)
  pub some-d : (n k : ℕ) → 3 ≤ n → n ≤ 16 → 2 ≤ k → k ≤ row.most_k n → (row.least_d n k ≤ row.mostD n k) × (row.mostD n k < 256)
  pub some_l : row.leastL ≤ row.most_l
  pub room_l : row.most_l < 256 ^ row.length_bytes
  pub few_bytes : row.length_bytes ≤ 4
  pub low-l : row.leastL ≤ 2 ^ 32
  -- where 0 and 255 can both be the next byte of L, any can
  pub any_l : AnyBetween row.length_bytes row.leastL row.most_l
  -- what isn't refused is in the ranges, and then there are letters, for whose number the end has room
  pub ranged : (g : Group) (i : ℕ) → row.refusal g i ≡ 0 → InRow row g i
  pub some_letters : (g : Group) (i : ℕ) → InRow row g i → 1 ≤ row.letters g i
  pub few_letters : (g : Group) (i : ℕ) → InRow row g i → row.letters g i < total_limit

-- the kind of an L: 1 up to 4,096, and 6 above
pub short_kind : (l : ℕ) → l ≤ longest_of_kind_one → kind_for_length l ≡ 1
short_kind l h = simp (le-leb l longest_of_kind_one h)

pub longer_kind : (l : ℕ) → longest_of_kind_one < l → kind_for_length l ≡ 6
longer_kind l h = simp (lt-leb l longest_of_kind_one h)

-- so that is what each kind serves
pub one_serves : (l : ℕ) → leb l longest_of_kind_one ≡ eqb 1 (kind_for_length l)
one_serves l = by (leb l longest_of_kind_one)
  where
    by : (b : Bool) → b ≡ eqb 1 (cond b 1 6)
    by true = refl
    by false = refl

pub six_serves : (l : ℕ) → ltb longest_of_kind_one l ≡ eqb 6 (kind_for_length l)
six_serves l =
    ⊎_elim (λ h. le-ltb longest_of_kind_one l h ∙ sym (ap (eqb 6) (short_kind l h))) (λ h. lt-ltb longest_of_kind_one l h ∙ sym (ap (eqb 6) (longer_kind l h)))
    (le_or_lt l longest_of_kind_one)

pub none_serves : (kind l : ℕ) → (kind ≡ 1 → ⊥) → (kind ≡ 6 → ⊥) → false ≡ eqb kind (kind_for_length l)
none_serves kind l a b =
    sym (ne_eqb kind (kind_for_length l) (λ e. ⊎_elim (λ h. a (e ∙ short_kind l h)) (λ h. b (e ∙ longer_kind l h)) (le_or_lt l longest_of_kind_one)))

-- a test of that which fails
pub unserved : (r : Bool) (kind l : ℕ) → r ≡ eqb kind (kind_for_length l) → r ≡ false → kind ≡ kind_for_length l → ⊥
unserved r kind l e f same =
    let z : ◌≡◌ {A = ℕ} 0 1 = ap (λ (b : Bool). cond b 1 0) (sym f ∙ e ∙ eq-eqb kind (kind_for_length l) same) in absurd (omega arith)

-- The kind serves exactly the L's of this range, which are some of those that a group may have.
pub record Serves (kind least most : ℕ) : Type 0 where
  pub low : 1 ≤ least
  pub high : most ≤ longest
  pub served : (l : ℕ) → least ≤ l → l ≤ most → kind_for_length l ≡ kind
  pub ranged : (l : ℕ) → 1 ≤ l → l ≤ longest → kind_for_length l ≡ kind → (least ≤ l) × (l ≤ most)

pub short_serves : Serves 1 1 longest_of_kind_one
short_serves =
    record {
      low = omega arith;
      high = omega arith;
      served = λ l lo hi. short_kind l hi;
      ranged = λ l lo hi e. (lo, ⊎_elim (λ h. h) (λ h. absurd (omega (arith, longer_kind l h))) (le_or_lt l longest_of_kind_one));
    }

pub longer_serves : Serves 6 (longest_of_kind_one + 1) longest
longer_serves =
    record {
      low = omega arith;
      high = omega arith;
      served = λ l lo hi. longer_kind l (omega arith);
      ranged = λ l lo hi e. (⊎_elim (λ h. absurd (omega (arith, short_kind l h))) (λ h. omega arith) (le_or_lt l longest_of_kind_one), hi);
    }

-- a node's packets as the kind that serves their L have its refusals, and no others as any kind
pub packets_served : (kind : ℕ) (g : Group) (i : ℕ) → kind_for_length g.l ≡ kind → packets_refusal kind g i ≡ node_refusal g i
unfolding packets_refusal
packets_served kind g i e = rw e (simp (eq-eqb kind kind refl))

pub packets_other : (kind : ℕ) (g : Group) (i : ℕ) → (kind ≡ kind_for_length g.l → ⊥) → packets_refusal kind g i ≡ 2
unfolding packets_refusal
packets_other kind g i not = simp (ne_eqb kind (kind_for_length g.l) not)

packets_fine : (kind : ℕ) (g : Group) (i : ℕ) → packets_refusal kind g i ≡ 0 → (kind_for_length g.l ≡ kind) × (node_refusal g i ≡ 0)
unfolding packets_refusal
packets_fine kind g i = by (eqb kind (kind_for_length g.l)) refl
  where
    by : (b : Bool) → eqb kind (kind_for_length g.l) ≡ b → cond b (node_refusal g i) 2 ≡ 0 → (kind_for_length g.l ≡ kind) × (node_refusal g i ≡ 0)
    by true e z = (sym (eqb-true kind (kind_for_length g.l) e), z)
    by false e z = absurd (omega arith)

-- kinds 1 and 6: the ranges are those of a node of a group whose L they serve
module _ (kind bytes least most : ℕ) (w : Serves kind least most) (g : Group) (i : ℕ) where
  pub packets_node : InRow (packets_row kind bytes least most) g i → NodeOf g i
  packets_node r =
      record {
        group =
            record {
              n_low = r.n_low;
              n-high = r.n-high;
              k_low = r.k_low;
              k-high = r.d_low;
              d_high = omega arith;
              l_low = omega (arith, w.low, r.l_low);
              l_high = omega (arith, w.high, r.l_high);
            };
        low = r.node_low;
        high = r.node-high;
      }

  pub node_packets : NodeOf g i → kind_for_length g.l ≡ kind → InRow (packets_row kind bytes least most) g i
  node_packets v e =
      let r = v.group in
      let l = w.ranged g.l r.l_low r.l_high e in
      record {
        n_low = r.n_low;
        n-high = r.n-high;
        k_low = r.k_low;
        k-high = omega (arith, r);
        d_low = r.k-high;
        d_high = omega (arith, r);
        node_low = v.low;
        node-high = v.high;
        l_low = l.0;
        l_high = l.1;
      }

  packets_ranged : packets_refusal kind g i ≡ 0 → InRow (packets_row kind bytes least most) g i
  packets_ranged e = let f = packets_fine kind g i e in node_packets (node_of g i f.1) f.0

  packets_none : InRow (packets_row kind bytes least most) g i → packets_refusal kind g i ≡ 0
  packets_none r = packets_served kind g i (w.served g.l r.l_low r.l_high) ∙ of_node g i (packets_node r)

-- so a node of a group is in the ranges of kind 1 where its L is at most 4,096
pub node_repairing : (g : Group) (i : ℕ) → NodeOf g i → g.l ≤ longest_of_kind_one → InRow repairing g i
node_repairing g i w h = node_packets 1 2 1 longest_of_kind_one short_serves g i w (short_kind g.l h)

-- kind 5: the ranges are those of a node of previews
pub previews_node : (g : Group) (i : ℕ) → InRow previews g i → PreviewNode g i
previews_node g i r =
    record {
      group =
          record {
            n_low = r.n_low;
            n-high = r.n-high;
            k_low = r.k_low;
            k-high = r.k-high;
            no_d = omega arith;
            l_low = r.l_low;
            l_high = r.l_high;
          };
      low = r.node_low;
      high = r.node-high;
    }

pub node_previews : (g : Group) (i : ℕ) → PreviewNode g i → InRow previews g i
node_previews g i w =
    let r = w.group in
    record {
      n_low = r.n_low;
      n-high = r.n-high;
      k_low = r.k_low;
      k-high = r.k-high;
      d_low = omega arith;
      d_high = omega (arith, r);
      node_low = w.low;
      node-high = w.high;
      l_low = r.l_low;
      l_high = r.l_high;
    }

packets_laws :
    (kind bytes least most : ℕ) → Serves kind least most → least ≤ most → most < 256 ^ bytes → bytes ≤ 4 → AnyBetween bytes least most
    → RowLaws (packets_row kind bytes least most)
packets_laws kind bytes least most w some room few any =
    record {
      some_k = λ n lo hi. (omega arith, omega arith);
      some-d = λ n k lo hi lk hk. (omega arith, omega arith);
      some_l = some;
      room_l = room;
      few_bytes = few;
      low-l = omega (arith, w.high);
      any_l = any;
      ranged = packets_ranged kind bytes least most w;
      some_letters = λ g i r. node_some g i (packets_node kind bytes least most w g i r);
      few_letters = λ g i r. omega (arith, node_at_most g i (packets_node kind bytes least most w g i r));
    }

repairing_laws : RowLaws repairing
repairing_laws = packets_laws 1 2 1 longest_of_kind_one short_serves (omega arith) (omega arith) (omega arith) (least_of_one 2 1 longest_of_kind_one (omega arith))

-- of an L above 4,096 any two low bytes can stand; what is left then begins at 0 or 1
longer_any : AnyBetween 4 (longest_of_kind_one + 1) longest
unfolding AnyBetween
longer_any = (
  inr (inl (omega arith)),
  λ a la. (
    inr (inl (omega arith)),
    λ b lb. least_of_one 2 (least_left (least_left (longest_of_kind_one + 1) a) b) (most_left (most_left longest a) b) (omega arith),
  ),
)

longer_laws : RowLaws repairing_longer
longer_laws = packets_laws 6 4 (longest_of_kind_one + 1) longest longer_serves (omega arith) (omega arith) (omega arith) longer_any

previews_laws : RowLaws previews
previews_laws =
    record {
      some_k = λ n lo hi. (omega arith, omega arith);
      some-d = λ n k lo hi lk hk. (omega arith, omega arith);
      some_l = omega arith;
      room_l = omega arith;
      few_bytes = omega arith;
      low-l = omega arith;
      any_l = least_of_one 2 1 _ (omega arith);
      ranged = λ g i e. node_previews g i (preview_node_of g i e);
      some_letters = λ g i r. preview_packet_some g i (previews_node g i r);
      few_letters = λ g i r. omega (arith, preview_packet_at_most g i (previews_node g i r));
    }

none_laws : RowLaws no_kind
none_laws =
    record {
      some_k = repairing_laws.some_k;
      some-d = repairing_laws.some-d;
      some_l = omega arith;
      room_l = omega arith;
      few_bytes = omega arith;
      low-l = omega arith;
      any_l = repairing_laws.any_l;
      ranged = λ g i e. absurd (omega arith);
      some_letters = λ g i r. omega arith;
      few_letters = λ g i r. omega arith;
    }

-- The table, row by row: what holds of every kind with its row, and of any other number with what is said of no kind, holds of all numbers.
pub each_kind :
    (P : ℕ → Bool → KindRow → Type 0) → P 1 true repairing → P 5 true previews → P 6 true repairing_longer → ((kind : ℕ) → P kind false no_kind)
    → (kind : ℕ) → P kind (is_kind kind) (row_for_kind kind)
unfolding is_kind row_for_kind
each_kind P p1 p5 p6 none kind = by (eqb kind 1) (eqb kind 5) (eqb kind 6) refl refl refl
  where
    by :
        (a b c : Bool) → eqb kind 1 ≡ a → eqb kind 5 ≡ b → eqb kind 6 ≡ c
        → P kind (either a (either b c)) (cond a repairing (cond b previews (cond c repairing_longer no_kind)))
    by true b c ea eb ec = rw (eqb-true kind 1 ea) p1
    by false true c ea eb ec = rw (eqb-true kind 5 eb) p5
    by false false true ea eb ec = rw (eqb-true kind 6 ec) p6
    by false false false ea eb ec = none kind

pub row_laws : (kind : ℕ) → RowLaws (row_for_kind kind)
row_laws = each_kind (λ kind is row. RowLaws row) repairing_laws previews_laws longer_laws (λ kind. none_laws)

-- what is a kind refuses nothing that is in its ranges, and what is none refuses everything
pub kind_fine : (kind : ℕ) (g : Group) (i : ℕ) → is_kind kind ≡ true → InRow (row_for_kind kind) g i → (row_for_kind kind).refusal g i ≡ 0
kind_fine kind g i =
    each_kind (λ kind is row. is ≡ true → InRow row g i → row.refusal g i ≡ 0)
    (λ e r. packets_none 1 2 1 longest_of_kind_one short_serves g i r)
    (λ e r. of_preview_node g i (previews_node g i r))
    (λ e r. packets_none 6 4 (longest_of_kind_one + 1) longest longer_serves g i r)
    (λ kind e r. let z : ◌≡◌ {A = ℕ} 0 1 = cc in absurd (omega arith))
    kind

pub fine_kind : (kind : ℕ) (g : Group) (i : ℕ) → (row_for_kind kind).refusal g i ≡ 0 → is_kind kind ≡ true
fine_kind kind g i =
    each_kind (λ kind is row. row.refusal g i ≡ 0 → is ≡ true) (λ e. refl) (λ e. refl) (λ e. refl) (λ kind e. absurd (omega arith)) kind

-- the kind that writing chooses has the refusals of the node, and holds its letters
pub chosen_row : (P : KindRow → Type 0) (l : ℕ) → (kind_for_length l ≡ 1 → P repairing) → (kind_for_length l ≡ 6 → P repairing_longer) → P (row_for_kind (kind_for_length l))
unfolding row_for_kind
chosen_row P l short longer =
    ⊎_elim (λ h. rw (short_kind l h) (short (short_kind l h))) (λ h. rw (longer_kind l h) (longer (longer_kind l h))) (le_or_lt l longest_of_kind_one)

pub chosen_refusal : (g : Group) (i : ℕ) → (row_for_kind (kind_for_length g.l)).refusal g i ≡ node_refusal g i
chosen_refusal g i = chosen_row (λ row. row.refusal g i ≡ node_refusal g i) g.l (packets_served 1 g i) (packets_served 6 g i)

pub chosen_letters : (g : Group) (i : ℕ) → (row_for_kind (kind_for_length g.l)).letters g i ≡ node_letters g i
chosen_letters g i = chosen_row (λ row. row.letters g i ≡ node_letters g i) g.l (λ e. refl) (λ e. refl)

-- and what is in a row's ranges is served by its kind, or is of previews
pub served_kind : (kind : ℕ) (g : Group) (i : ℕ) → is_kind kind ≡ true → (kind ≡ 5 → ⊥) → InRow (row_for_kind kind) g i → kind ≡ kind_for_length g.l
served_kind kind g i =
    each_kind (λ kind is row. is ≡ true → (kind ≡ 5 → ⊥) → InRow row g i → kind ≡ kind_for_length g.l)
    (λ e other r. sym (short_kind g.l r.l_high))
    (λ e other r. absurd (other refl))
    (λ e other r. sym (longer_kind g.l (omega (arith, r.l_low))))
    (λ kind e other r. let z : ◌≡◌ {A = ℕ} 0 1 = cc in absurd (omega arith))
    kind

-- so T: the letters where nothing is refused, and else 0
module _ (kind : ℕ) (g : Group) (i : ℕ) where
  pub total_fine : (row_for_kind kind).refusal g i ≡ 0 → row_total (row_for_kind kind) g i ≡ (row_for_kind kind).letters g i
  total_fine e = ap (λ q. if_fine q ((row_for_kind kind).letters g i) 0) e

  pub total_refused : (row_total (row_for_kind kind) g i ≡ 0 → ⊥) → (row_for_kind kind).refusal g i ≡ 0
  total_refused = by ((row_for_kind kind).refusal g i)
    where
      by : (q : ℕ) → (if_fine q ((row_for_kind kind).letters g i) 0 ≡ 0 → ⊥) → q ≡ 0
      by zero some = refl
      by (suc q) some = absurd (some refl)

  pub row_small : row_total (row_for_kind kind) g i < total_limit
  row_small = by ((row_for_kind kind).refusal g i) refl
    where
      by : (q : ℕ) → (row_for_kind kind).refusal g i ≡ q → if_fine q ((row_for_kind kind).letters g i) 0 < total_limit
      by zero e = (row_laws kind).few_letters g i ((row_laws kind).ranged g i e)
      by (suc q) e = omega arith

-- they are the node's as the kind that serves its L
pub total_chosen : (kind : ℕ) (g : Group) (i : ℕ) → kind ≡ kind_for_length g.l → if_fine (node_refusal g i) (node_letters g i) 0 ≡ row_total (row_for_kind kind) g i
total_chosen kind g i e = rw e (sym (ap₂ (λ q v. if_fine q v 0) (chosen_refusal g i) (chosen_letters g i)))

-- there are none as a kind that doesn't serve this L, unless they are previews
pub total_none : (kind : ℕ) (g : Group) (i : ℕ) → (kind ≡ kind_for_length g.l → ⊥) → (kind ≡ 5 → ⊥) → row_total (row_for_kind kind) g i ≡ 0
total_none kind g i =
    each_kind (λ kind is row. (kind ≡ kind_for_length g.l → ⊥) → (kind ≡ 5 → ⊥) → row_total row g i ≡ 0)
    (λ other a. ap (λ q. if_fine q (node_letters g i) 0) (packets_other 1 g i other))
    (λ other a. absurd (a refl))
    (λ other a. ap (λ q. if_fine q (node_letters g i) 0) (packets_other 6 g i other))
    (λ kind other a. refl)
    kind

-- a kind is a byte
pub kind_small : (kind : ℕ) → is_kind kind ≡ true → kind < 256
kind_small =
    each_kind (λ kind is row. is ≡ true → kind < 256) (λ e. omega arith) (λ e. omega arith) (λ e. omega arith)
    (λ kind e. let z : ◌≡◌ {A = ℕ} 0 1 = cc in absurd (omega arith))

-- a head has a kind, and is no longer than a block
pub size_some : (kind : ℕ) → 5 ≤ head_size kind
unfolding head_size
size_some kind = omega arith

pub size_small : (kind : ℕ) → head_size kind ≤ 13
unfolding head_size
size_small kind = omega (arith, (row_laws kind).few_bytes)

-- what is no kind has the ranges of kind 1
pub other_limits : (kind n k : ℕ) → (kind ≡ 5 → ⊥) → limits_in repairing n k ≡ limits_at kind n k
other_limits kind n k =
    each_kind (λ kind is row. (kind ≡ 5 → ⊥) → limits_in repairing n k ≡ limits_in row n k) (λ a. refl) (λ a. absurd (a refl)) (λ a. refl) (λ kind a. refl) kind

pub other_bytes : (kind : ℕ) → (kind ≡ 6 → ⊥) → 2 ≡ (row_for_kind kind).length_bytes
other_bytes = each_kind (λ kind is row. (kind ≡ 6 → ⊥) → 2 ≡ row.length_bytes) (λ a. refl) (λ a. refl) (λ a. absurd (a refl)) (λ kind a. refl)

pub other_test : (kind l nth : ℕ) → (kind ≡ 6 → ⊥) → length_test repairing l nth ≡ length_test (row_for_kind kind) l nth
other_test kind l nth =
    each_kind (λ kind is row. (kind ≡ 6 → ⊥) → length_test repairing l nth ≡ length_test row l nth) (λ a. refl) (λ a. refl) (λ a. absurd (a refl)) (λ kind a. refl) kind
