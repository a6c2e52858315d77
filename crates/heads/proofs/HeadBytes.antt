-- What a share is means this for the head, byte by byte: each number of one byte is found wrong exactly if it is outside its range, given the numbers
-- before it, and L at its last byte if not before. (So with two bytes for 1 to 4,096 an L = 0 is found at its second byte.)
use mathlib.Core.Path.{◌≡◌, refl, sym, ap, subst, ◌∙◌}
use mathlib.Core.Bool.{Bool, true, false}
use mathlib.Core.List.{List}
use mathlib.Core.Logic.{◌↔◌, ⊎_elim}
use Prim.Native.Nat.{ℕ, zero, suc, ◌+◌, ◌/◌, ◌%◌, ◌*◌, ◌^◌, ◌≤◌, ◌<◌}
use native.Mathlib.Nat.{mul-le-mul, pow-succ'}
use native.Mathlib.Omega.{arith}
use lib.ListN.{length, get_or, take}
use borrow.Author.Tests.{lt-leb}
use Rattle.letters.specs.Lanes.{Bytes}
use Rattle.letters.proofs.Cases.{le_or_lt, eq_or_ne}
use Rattle.group.specs.Ranges.{between, most_nodes, longest}
use Rattle.group.proofs.InRange.{true_between}
use Rattle.letters.proofs.Places.{both_no}
use Rattle.records.specs.Records.{number_in}
use Rattle.records.proofs.NumberBytes.{number_below, number_last}
use Rattle.records.specs.Steps.Ranges.{least_left, most_left, range_tests}
use Rattle.records.proofs.RangeBytes.{low_stands_lem, lowest_test, range_told, range_held, range_short}
use Rattle.kinds.specs.Kinds.{longest_of_kind_one, row_for_kind, is_kind, head_size}
use Rattle.kinds.proofs.RowLaws.{row_laws, each_kind}
use Rattle.layout.specs.Judgment.{CanStand, Offends}
use Rattle.layout.specs.Steps.Stands.{stands}
use Rattle.layout.proofs.Stands.{stands_head}
use Rattle.layout.proofs.Judgments.{offends_if, wrong_if, stands_before, nothing_stands, not_both}
use Rattle.heads.specs.Heads.{head_in, heads}
use Rattle.heads.proofs.HeadLaws.{wide, any_byte, length_test_lem, batch_test, lawful}

-- x is none of lo..hi
abbrev pub Outside : ℕ → ℕ → ℕ → Type 0
Outside lo hi x = (lo ≤ x) × (x ≤ hi) → ⊥

is_outside : (lo hi x : ℕ) → (between lo hi x ≡ false) ↔ Outside lo hi x
is_outside lo hi x = (λ f w. not_both (between lo hi x) (true_between lo hi x w.0 w.1) f, fails)
  where
    fails : Outside lo hi x → between lo hi x ≡ false
    fails n =
        ⊎_elim (λ low. ⊎_elim (λ high. absurd (n (low, high))) (λ over. simp (lt-leb x hi over, both_no)) (le_or_lt x hi))
        (λ under. simp (lt-leb lo x under))
        (le_or_lt lo x)

-- a test that doesn't hold fails
fails_if : (b : Bool) → (b ≡ true → ⊥) → b ≡ false
fails_if true n = absurd (n refl)
fails_if false n = refl

-- of an L of 4,097 to 1,048,576 any two low bytes can stand
low_two : (l q : ℕ) → q < 2 → get_or (range_tests 4 (longest_of_kind_one + 1) longest l) q true ≡ true
unfolding range_tests
low_two l zero h = low_stands_lem (longest_of_kind_one + 1) longest (l % 256) (omega arith) (omega arith)
low_two l (suc zero) h = low_stands_lem (least_left (longest_of_kind_one + 1) (l % 256)) (most_left longest (l % 256)) (l / 256 % 256) (omega arith) (omega arith)
low_two l (suc (suc q)) h = absurd (omega arith)

-- the bytes before q can stand, and there is a byte at q
module _ (xs : List ℕ) (bytes : Bytes xs) (q : ℕ) (h : q < length xs) (s : CanStand heads (take q xs)) where
  pub wrong_here : Offends heads xs q ↔ (stands heads xs q ≡ false)
  wrong_here = (
    λ o. (wrong_if heads lawful xs q bytes o).wrong,
    λ f. offends_if heads lawful xs q bytes h (record { before = stands_before heads lawful xs q (omega arith) s; wrong = f }),
  )

  tested : {P : Type 0} → q < head_size (get_or xs 0 0) → (get_or (heads.head_tests xs) q true ≡ false) ↔ P → Offends heads xs q ↔ P
  tested l e =
      (λ o. e.0 (sym (stands_head heads xs q l) ∙ wrong_here.0 o), λ p. wrong_here.1 (stands_head heads xs q l ∙ e.1 p))

  -- those before it pass
  passed_before : (p : ℕ) → p < q → p < head_size (get_or xs 0 0) → get_or (heads.head_tests xs) p true ≡ true
  passed_before p less l = sym (stands_head heads xs p l) ∙ stands_before heads lawful xs q (omega arith) s p less

module _ (xs : List ℕ) (bytes : Bytes xs) where
  -- the row of the first byte's kind
  abbrev kind : ℕ
  kind = get_or xs 0 0

  pub kind_found : 0 < length xs → Offends heads xs 0 ↔ (is_kind (get_or xs 0 0) ≡ false)
  unfolding head_in head_size
  kind_found h = tested xs bytes 0 h (nothing_stands heads lawful) (omega arith) (λ e. e, λ e. e)

  pub n_found : 1 < length xs → CanStand heads (take 1 xs) → Offends heads xs 1 ↔ Outside 3 most_nodes (get_or xs 1 0)
  unfolding head_in head_size
  n_found h s = tested xs bytes 1 h s (omega arith) (is_outside 3 most_nodes (get_or xs 1 0))

  pub k_found : 2 < length xs → CanStand heads (take 2 xs) → Offends heads xs 2 ↔ Outside 2 ((row_for_kind kind).most_k (get_or xs 1 0)) (get_or xs 2 0)
  unfolding head_in head_size
  k_found h s = tested xs bytes 2 h s (omega arith) (is_outside 2 ((row_for_kind kind).most_k (get_or xs 1 0)) (get_or xs 2 0))

  pub d_found :
      3 < length xs → CanStand heads (take 3 xs)
      → Offends heads xs 3 ↔ Outside ((row_for_kind kind).least_d (get_or xs 1 0) (get_or xs 2 0)) ((row_for_kind kind).mostD (get_or xs 1 0) (get_or xs 2 0)) (get_or xs 3 0)
  unfolding head_in head_size
  d_found h s =
      tested xs bytes 3 h s (omega arith)
      (is_outside ((row_for_kind kind).least_d (get_or xs 1 0) (get_or xs 2 0)) ((row_for_kind kind).mostD (get_or xs 1 0) (get_or xs 2 0)) (get_or xs 3 0))

  pub node_found : 4 < length xs → CanStand heads (take 4 xs) → Offends heads xs 4 ↔ Outside 1 (get_or xs 1 0) (get_or xs 4 0)
  unfolding head_in head_size
  node_found h s = tested xs bytes 4 h s (omega arith) (is_outside 1 (get_or xs 1 0) (get_or xs 4 0))

  -- L's range, and its tests up to a byte: they are those of the number up to there, which is in range where its bytes pass and the most ends with it
  abbrev least : ℕ
  least = (row_for_kind kind).leastL

  abbrev most : ℕ
  most = (row_for_kind kind).most_l

  length_tests :
      (q : ℕ) → q < wide kind → (i : ℕ) → i ≤ q
      → get_or (heads.head_tests xs) (5 + i) true ≡ get_or (range_tests (suc q) least most (number_in (suc q) 5 xs)) i true
  unfolding head_in
  length_tests q w i l = length_test_lem (head_in xs) i ∙ range_short (wide kind) (suc q) least most 5 xs i (any_byte xs bytes) (omega arith) (omega arith)

  length_told :
      (q : ℕ) → q < wide kind → most < 256 ^ suc q → ((i : ℕ) → i ≤ q → get_or (heads.head_tests xs) (5 + i) true ≡ true)
      → (least ≤ number_in (suc q) 5 xs) × (number_in (suc q) 5 xs ≤ most)
  length_told q w ends passed =
      range_told (suc q) least most (number_in (suc q) 5 xs) (row_laws kind).some_l ends
      (number_below (suc q) 5 xs (record { below = λ i l. any_byte xs bytes (5 + i) }))
      (λ i l. sym (length_tests q w i (omega arith)) ∙ passed i (omega arith))

  -- where the bytes before it can stand, the byte of L at which the most ends is wrong exactly if the number up to there is out of range
  pub length_found :
      (q : ℕ) → q < wide kind → most < 256 ^ suc q → 5 + q < length xs → CanStand heads (take (5 + q) xs)
      → Offends heads xs (5 + q) ↔ Outside least most (number_in (suc q) 5 xs)
  unfolding head_size
  length_found q w ends h s =
      tested xs bytes (5 + q) h s (omega arith) (
        λ f r. not_both _ (length_tests q w q (omega arith) ∙ range_held (suc q) least most (number_in (suc q) 5 xs) r.0 r.1 q) f,
        λ n. fails_if _ (λ t. n (length_told q w ends (λ i l. ⊎_elim (λ here. let e : i ≡ q = omega arith in rw e t) (λ before. passed i before) (le_or_lt q i)))),
      )
    where
      passed : (i : ℕ) → i < q → get_or (heads.head_tests xs) (5 + i) true ≡ true
      passed i l = passed_before xs bytes (5 + q) h s (5 + i) (omega arith) (omega arith)

  -- and each byte of L after that one is wrong exactly if it isn't 0
  pub above_found :
      (q : ℕ) → suc q < wide kind → most < 256 ^ suc q → 5 + suc q < length xs → CanStand heads (take (5 + suc q) xs)
      → Offends heads xs (5 + suc q) ↔ (get_or xs (5 + suc q) 0 ≡ 0 → ⊥)
  unfolding head_size
  above_found q w ends h s =
      let found = length_found (suc q) w (omega (arith, pow-succ' 256 (suc q))) h s in (
        λ o none.
            let same : 256 ^ suc q * get_or xs (5 + suc q) 0 ≡ 256 ^ suc q * 0 = ap (λ b. 256 ^ suc q * b) none in
            found.0 o (omega (arith, below, whole, same), omega (arith, below, whole, same)),
        λ some.
            found.1
            (λ r.
            let more : 256 ^ suc q * 1 ≤ 256 ^ suc q * get_or xs (5 + suc q) 0 = mul-le-mul (omega arith) (⊎_elim (λ z. absurd (some z)) (λ p. omega arith) (eq_or_ne (get_or xs (5 + suc q) 0) 0)) in
            omega (arith, r, below, whole, more)),
      )
    where
      below : (least ≤ number_in (suc q) 5 xs) × (number_in (suc q) 5 xs ≤ most)
      below = length_told q (omega arith) ends (λ i l. passed_before xs bytes (5 + suc q) h s (5 + i) (omega arith) (omega arith))

      whole : number_in (suc (suc q)) 5 xs ≡ number_in (suc q) 5 xs + 256 ^ suc q * get_or xs (5 + suc q) 0
      whole = number_last (suc q) 5 xs

  -- and the batch is never wrong
  pub batch_never : (q : ℕ) → q < 4 → Offends heads xs (5 + wide kind + q) → ⊥
  unfolding head_in head_size
  batch_never q l o =
      not_both (stands heads xs (5 + wide kind + q)) (stands_head heads xs (5 + wide kind + q) (omega arith) ∙ batch_test (head_in xs) q)
      (wrong_if heads lawful xs (5 + wide kind + q) bytes o).wrong

  -- where L has two bytes and begins at 1, its low byte alone is never wrong, and 0 is found at the second
  module _ (two : wide kind ≡ 2) (one : (row_for_kind kind).leastL ≡ 1) (many : 256 ≤ (row_for_kind kind).most_l) where
    pub low_never : Offends heads xs 5 → ⊥
    unfolding head_in head_size
    low_never o =
        not_both (stands heads xs 5)
        (stands_head heads xs 5 (omega arith)
        ∙ length_test_lem (head_in xs) 0
        ∙ lowest_test (wide kind) (row_for_kind kind).leastL (row_for_kind kind).most_l (head_in xs).group.l 0 (omega arith) refl
        ∙ low_stands_lem (row_for_kind kind).leastL (row_for_kind kind).most_l ((head_in xs).group.l % 256) (omega arith) (omega arith))
        (wrong_if heads lawful xs 5 bytes o).wrong

    pub zero_found : 6 < length xs → CanStand heads (take 6 xs) → get_or xs 5 0 ≡ 0 → get_or xs 6 0 ≡ 0 → Offends heads xs 6
    zero_found h s low high =
        (length_found 1 (omega arith) (subst (λ n. most < 256 ^ n) two (row_laws kind).room_l) h s).1 (λ w. omega (arith, w.0, low, high))

  -- in a head of kind 6 the first two bytes of L are never wrong; the third is exactly if the number of the three isn't above 4,096 or is above
  -- 1,048,576 (so it is where it is above 16, or is 16 and one of the two isn't 0); and the fourth is exactly if it isn't 0
  module _ (six : kind ≡ 6) where
    longer_never : (q : ℕ) → q < 2 → Offends heads xs (5 + q) → ⊥
    unfolding head_in head_size row_for_kind
    longer_never q l o =
        not_both (stands heads xs (5 + q))
        (stands_head heads xs (5 + q) (rw six (omega arith))
        ∙ length_test_lem (head_in xs) q
        ∙ ap (λ k. get_or (range_tests (wide k) (row_for_kind k).leastL (row_for_kind k).most_l (head_in xs).group.l) q true) six
        ∙ low_two (head_in xs).group.l q l)
        (wrong_if heads lawful xs (5 + q) bytes o).wrong

    pub first_never : Offends heads xs 5 → ⊥
    first_never = longer_never 0 (omega arith)

    pub second_never : Offends heads xs 6 → ⊥
    second_never = longer_never 1 (omega arith)

    row : (wide kind ≡ 4) × (least ≡ 4097) × (most ≡ 1048576)
    unfolding row_for_kind
    row = subst (λ k. (wide k ≡ 4) × ((row_for_kind k).leastL ≡ 4097) × ((row_for_kind k).most_l ≡ 1048576)) (sym six) (refl, refl, refl)

    pub third_found : 7 < length xs → CanStand heads (take 7 xs) → Offends heads xs 7 ↔ Outside 4097 1048576 (number_in 3 5 xs)
    third_found h s =
        subst (λ m. Offends heads xs 7 ↔ Outside 4097 m (number_in 3 5 xs)) row.2
        (subst (λ l. Offends heads xs 7 ↔ Outside l most (number_in 3 5 xs)) row.1 (length_found 2 (omega (arith, row)) (omega (arith, row)) h s))

    pub fourth_found : 8 < length xs → CanStand heads (take 8 xs) → Offends heads xs 8 ↔ (get_or xs 8 0 ≡ 0 → ⊥)
    fourth_found h s = above_found 2 (omega (arith, row)) (omega (arith, row)) h s

-- as it is with kinds 1 and 5
pub two_bytes : (kind : ℕ) → is_kind kind ≡ true → (kind ≡ 6 → ⊥) → (wide kind ≡ 2) × ((row_for_kind kind).leastL ≡ 1) × (256 ≤ (row_for_kind kind).most_l)
two_bytes =
    each_kind (λ kind is row. is ≡ true → (kind ≡ 6 → ⊥) → (row.length_bytes ≡ 2) × (row.leastL ≡ 1) × (256 ≤ row.most_l))
    (λ e other. (refl, refl, omega arith))
    (λ e other. (refl, refl, omega arith))
    (λ e other. absurd (other refl))
    (λ kind e other. absurd (not_both false e refl))
