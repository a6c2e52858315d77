-- The heads are a lawful layout: a number's bytes, taken together, are the number, each is tested as its kind's row says, and after any bytes of a
-- head that pass their tests some byte can stand.
use mathlib.Core.Path.{◌≡◌, refl, sym, ap, ap₂, subst, ◌∙◌}
use mathlib.Core.Bool.{true}
use mathlib.Core.List.{List, [], ◌∷◌, ◌++◌}
use mathlib.Core.Logic.{⊎_elim}
use Prim.Native.Nat.{ℕ, zero, suc, ◌+◌, ◌-◌, ◌^◌, ◌<◌}
use native.Mathlib.Omega.{arith}
use lib.ListN.{length, get_or, length-append, get_or-append, get_or-eq_default}
use lib.Seq.{get_or_at, get_or-append-add}
use Rattle.letters.specs.Lanes.{Bytes}
use Rattle.letters.proofs.Cases.{le_or_lt}
use Rattle.group.specs.Ranges.{group_of, most_nodes}
use Rattle.group.proofs.InRange.{between_true, true_between}
use Rattle.records.specs.Records.{total_limit, number, number_in}
use Rattle.records.specs.Steps.Ranges.{range_tests}
use Rattle.records.proofs.NumberBytes.{length_number, number_same, number_back, number_below, number_own, BytesFrom}
use Rattle.records.proofs.RangeBytes.{range_held, range_past, range_told, range_same, range_next}
use Rattle.kinds.specs.Kinds.{row_for_kind, is_kind, head_size}
use Rattle.kinds.proofs.RowLaws.{row_laws, kind_fine, fine_kind, total_fine, total_refused, row_small}
use Rattle.layout.specs.Laws.{Lawful, SameBelow, Passes}
use Rattle.heads.specs.declared.Head.{Head}
use Rattle.heads.specs.Heads.{head_record, HeadNumbers, head_total, head_in, head_tests, heads}

-- the bytes of L in a head of this kind
abbrev pub wide : ℕ → ℕ
wide kind = (row_for_kind kind).length_bytes

-- what holds at each of the head's offsets holds at any: at the five numbers of one byte, at L's bytes and at the batch's
pub each_offset :
    (kind : ℕ) (P : ℕ → Type 0) → P 0 → P 1 → P 2 → P 3 → P 4 → ((q : ℕ) → q < wide kind → P (5 + q)) → ((q : ℕ) → q < 4 → P (5 + wide kind + q))
    → (p : ℕ) → p < head_size kind → P p
unfolding head_size
each_offset kind P p0 p1 p2 p3 p4 l b zero h = p0
each_offset kind P p0 p1 p2 p3 p4 l b (suc zero) h = p1
each_offset kind P p0 p1 p2 p3 p4 l b (suc (suc zero)) h = p2
each_offset kind P p0 p1 p2 p3 p4 l b (suc (suc (suc zero))) h = p3
each_offset kind P p0 p1 p2 p3 p4 l b (suc (suc (suc (suc zero)))) h = p4
each_offset kind P p0 p1 p2 p3 p4 l b (suc (suc (suc (suc (suc q))))) h =
    ⊎_elim
    (λ past. let e : 5 + wide kind + (q - wide kind) ≡ suc (suc (suc (suc (suc q)))) = omega arith in subst P e (b (q - wide kind) (omega arith)))
    (λ in-l. let e : 5 + q ≡ suc (suc (suc (suc (suc q)))) = omega arith in subst P e (l q in-l))
    (le_or_lt (wide kind) q)

five : (q : ℕ) → 5 + q ≡ suc (suc (suc (suc (suc q))))
five q = omega arith

-- the head's bytes
module _ (h : Head) where
  pub record_long : length (head_record h) ≡ head_size h.kind
  unfolding head_size
  record_long =
      simp (length-append, length_number) (omega arith)

  pub record_length : (q : ℕ) → q < wide h.kind → get_or (head_record h) (5 + q) 0 ≡ get_or (number (wide h.kind) h.group.l) q 0
  record_length q l =
      ap (λ i. get_or (head_record h) i 0) (five q)
      ∙ get_or-append (number (wide h.kind) h.group.l) (number 4 h.batch) 0 q (rw length_number l)

  pub record_batch : (q : ℕ) → get_or (head_record h) (5 + wide h.kind + q) 0 ≡ get_or (number 4 h.batch) q 0
  record_batch q =
      ap (λ i. get_or (head_record h) i 0) at
      ∙ get_or-append-add (number (wide h.kind) h.group.l) (number 4 h.batch) q 0
    where
      at : 5 + wide h.kind + q ≡ suc (suc (suc (suc (suc (length (number (wide h.kind) h.group.l) + q)))))
      at = rw length_number (omega arith)

  -- with others after them
  pub record_front : (rest : List ℕ) (p : ℕ) → p < head_size h.kind → get_or (head_record h ++ rest) p 0 ≡ get_or (head_record h) p 0
  record_front rest p l = get_or-append (head_record h) rest 0 p (omega (arith, record_long))

  -- the bytes of a head whose numbers have room in them tell it,
  pub told_by_bytes : h.group.l < 256 ^ wide h.kind → h.batch < 256 ^ 4 → (rest : List ℕ) → head_in (head_record h ++ rest) ≡ h
  unfolding head_in head_size
  told_by_bytes l batch rest =
      ap₂
      (λ l batch. record { group = group_of h.group.n h.group.k h.group.d l; node = h.node; batch = batch; kind = h.kind })
      (number_back (wide h.kind) 5 h.group.l (head_record h ++ rest) l
      (λ q lq. record_front rest (5 + q) (omega arith) ∙ record_length q lq))
      (number_back 4 (5 + wide h.kind) h.batch (head_record h ++ rest) batch
      (λ q lq. record_front rest (5 + wide h.kind + q) (omega arith) ∙ record_batch q))

  -- and numbers in range have room
  pub room_in_range : HeadNumbers h → h.group.l < 256 ^ wide h.kind
  room_in_range w = omega (arith, w.numbers.l_high, (row_laws h.kind).room_l)

  told : HeadNumbers h → (rest : List ℕ) → head_in (head_record h ++ rest) ≡ h
  told w rest = told_by_bytes (room_in_range w) (omega (arith, w.batch)) rest

  -- and pass their tests
  pub tests_hold : HeadNumbers h → (p : ℕ) → p < head_size h.kind → get_or (head_tests h) p true ≡ true
  tests_hold w =
      let r = w.numbers in
      each_offset h.kind (λ p. get_or (head_tests h) p true ≡ true)
      w.kind
      (true_between 3 most_nodes h.group.n r.n_low r.n-high)
      (true_between 2 _ h.group.k r.k_low r.k-high)
      (true_between _ _ h.group.d r.d_low r.d_high)
      (true_between 1 h.group.n h.node r.node_low r.node-high)
      (λ q l. ap (λ i. get_or (head_tests h) i true) (five q) ∙ held q)
      (λ q l. let e : 5 + wide h.kind + q ≡ suc (suc (suc (suc (suc (wide h.kind + q))))) = omega arith in ap (λ i. get_or (head_tests h) i true) e ∙ held (wide h.kind + q))
    where
      held : (q : ℕ) → get_or (range_tests (wide h.kind) (row_for_kind h.kind).leastL (row_for_kind h.kind).most_l h.group.l) q true ≡ true
      held = range_held (wide h.kind) (row_for_kind h.kind).leastL (row_for_kind h.kind).most_l h.group.l w.numbers.l_low w.numbers.l_high

  -- the tests of L's bytes
  pub length_test_lem : (q : ℕ) → get_or (head_tests h) (5 + q) true ≡ get_or (range_tests (wide h.kind) (row_for_kind h.kind).leastL (row_for_kind h.kind).most_l h.group.l) q true
  length_test_lem q = ap (λ i. get_or (head_tests h) i true) (five q)

  -- the batch may be any
  pub batch_test : (q : ℕ) → get_or (head_tests h) (5 + wide h.kind + q) true ≡ true
  batch_test q =
      let e : 5 + wide h.kind + q ≡ suc (suc (suc (suc (suc (wide h.kind + q))))) = omega arith in
      ap (λ i. get_or (head_tests h) i true) e
      ∙ range_past (wide h.kind) (row_for_kind h.kind).leastL (row_for_kind h.kind).most_l h.group.l (wide h.kind + q) (omega arith)

-- T has room in its bytes, and there are letters exactly where kind and numbers are in range
pub total_small : (h : Head) → head_total h < total_limit
total_small h = row_small h.kind h.group h.node

pub total_of : (h : Head) → HeadNumbers h → head_total h ≡ (row_for_kind h.kind).letters h.group h.node
total_of h w = total_fine h.kind h.group h.node (kind_fine h.kind h.group h.node w.kind w.numbers)

pub total_some : (h : Head) → HeadNumbers h → head_total h ≡ 0 → ⊥
total_some h w none =
    omega (arith, total_of h w, (row_laws h.kind).some_letters h.group h.node w.numbers)

pub fine_numbers : (h : Head) → h.batch < 2 ^ 32 → (row_for_kind h.kind).refusal h.group h.node ≡ 0 → HeadNumbers h
fine_numbers h batch fine =
    record {
      kind = fine_kind h.kind h.group h.node fine;
      numbers = (row_laws h.kind).ranged h.group h.node fine;
      batch = batch;
    }

pub some_numbers : (h : Head) → h.batch < 2 ^ 32 → (head_total h ≡ 0 → ⊥) → HeadNumbers h
some_numbers h batch some = fine_numbers h batch (total_refused h.kind h.group h.node some)

-- the size of the head that bytes tell is that of their kind
pub size_told : (xs : List ℕ) (h : Head) (front : ℕ) → front ≡ head_size h.kind → h ≡ head_in xs → front ≡ head_size (get_or xs 0 0)
unfolding head_in
size_told xs h front size told = size ∙ ap (λ (h : Head). head_size h.kind) told

-- numbers and tests depend on no later byte
module _ (xs zs : List ℕ) where
  pub same_numbers : SameBelow (head_size (get_or xs 0 0)) xs zs → head_in xs ≡ head_in zs
  unfolding head_in head_size
  same_numbers e =
      let at : (i : ℕ) → i < 5 → get_or xs i 0 ≡ get_or zs i 0 = λ i l. e i (omega arith) in
      let kind = at 0 (omega arith) in
      let l : number_in (wide (get_or xs 0 0)) 5 xs ≡ number_in (wide (get_or zs 0 0)) 5 zs =
      number_same (wide (get_or xs 0 0)) 5 5 xs zs (λ q lq. e (5 + q) (omega arith)) ∙ ap (λ k. number_in (wide k) 5 zs) kind
      in
      let batch : number_in 4 (5 + wide (get_or xs 0 0)) xs ≡ number_in 4 (5 + wide (get_or zs 0 0)) zs =
      number_same 4 (5 + wide (get_or xs 0 0)) (5 + wide (get_or xs 0 0)) xs zs (λ q lq. e (5 + wide (get_or xs 0 0) + q) (omega arith))
      ∙ ap (λ k. number_in 4 (5 + wide k) zs) kind
      in
      rw (l, batch, kind, at 1 (omega arith), at 2 (omega arith), at 3 (omega arith), at 4 (omega arith))

  same_test : (p : ℕ) → p < head_size (get_or xs 0 0) → SameBelow (suc p) xs zs → get_or (heads.head_tests xs) p true ≡ get_or (heads.head_tests zs) p true
  unfolding head_in
  same_test =
      each_offset (get_or xs 0 0) (λ p. SameBelow (suc p) xs zs → get_or (heads.head_tests xs) p true ≡ get_or (heads.head_tests zs) p true)
      (λ e. rw (e 0 (omega arith)))
      (λ e. rw (e 1 (omega arith)))
      (λ e. rw (e 0 (omega arith), e 1 (omega arith), e 2 (omega arith)))
      (λ e. rw (e 0 (omega arith), e 1 (omega arith), e 2 (omega arith), e 3 (omega arith)))
      (λ e. rw (e 1 (omega arith), e 4 (omega arith)))
      (λ q l e.
      length_test_lem (head_in xs) q
      ∙ range_same (wide (get_or xs 0 0)) (row_for_kind (get_or xs 0 0)).leastL (row_for_kind (get_or xs 0 0)).most_l 5 xs zs q (λ i h. e (5 + i) (omega arith))
      ∙ ap (λ k. get_or (range_tests (wide k) (row_for_kind k).leastL (row_for_kind k).most_l (number_in (wide k) 5 zs)) q true) (e 0 (omega arith))
      ∙ sym (length_test_lem (head_in zs) q))
      (λ q l e.
      batch_test (head_in xs) q
      ∙ sym (ap (λ k. get_or (head_tests (head_in zs)) (5 + wide k + q) true) (e 0 (omega arith)) ∙ batch_test (head_in zs) q))

-- bytes are those of the numbers that they tell
module _ (xs : List ℕ) (bytes : Bytes xs) where
  -- a byte that isn't there counts as 0
  pub any_byte : (i : ℕ) → get_or xs i 0 < 256
  any_byte i = ⊎_elim (λ past. let none : get_or xs i 0 ≡ 0 = get_or-eq_default xs 0 past in omega arith) (bytes.below i) (le_or_lt (length xs) i)

  from : (at s : ℕ) → BytesFrom xs at s
  from at s = record { below = λ q l. any_byte (at + q) }

  pub own_below : (p : ℕ) → p < head_size (get_or xs 0 0) → get_or xs p 0 ≡ get_or (head_record (head_in xs)) p 0
  unfolding head_in
  own_below =
      each_offset (get_or xs 0 0) (λ p. get_or xs p 0 ≡ get_or (head_record (head_in xs)) p 0)
      refl refl refl refl refl
      (λ q l. number_own (wide (get_or xs 0 0)) 5 xs (from 5 (wide (get_or xs 0 0))) q l ∙ sym (record_length (head_in xs) q l))
      (λ q l. number_own 4 (5 + wide (get_or xs 0 0)) xs (from (5 + wide (get_or xs 0 0)) 4) q l ∙ sym (record_batch (head_in xs) q))

  -- L and the batch have room in their bytes
  pub room_l : (head_in xs).group.l < 256 ^ wide (get_or xs 0 0)
  unfolding head_in
  room_l = number_below (wide (get_or xs 0 0)) 5 xs (from 5 (wide (get_or xs 0 0)))

  pub room_batch : (head_in xs).batch < 256 ^ 4
  unfolding head_in
  room_batch = number_below 4 (5 + wide (get_or xs 0 0)) xs (from (5 + wide (get_or xs 0 0)) 4)

  -- and where all pass their tests, the numbers are in range
  ranged : Passes heads xs (head_size (get_or xs 0 0)) → HeadNumbers (head_in xs)
  unfolding head_in head_size
  ranged test =
      let h = head_in xs in
      let row = row_for_kind (get_or xs 0 0) in
      let laws = row_laws (get_or xs 0 0) in
      let n = between_true 3 most_nodes h.group.n (test 1 (omega arith)) in
      let k = between_true 2 (row.most_k h.group.n) h.group.k (test 2 (omega arith)) in
      let d = between_true (row.least_d h.group.n h.group.k) (row.mostD h.group.n h.group.k) h.group.d (test 3 (omega arith)) in
      let i = between_true 1 h.group.n h.node (test 4 (omega arith)) in
      let l =
      range_told (wide (get_or xs 0 0)) row.leastL row.most_l h.group.l laws.some_l laws.room_l room_l
      (λ q lq. sym (length_test_lem h q) ∙ test (5 + q) (omega arith))
      in
      record {
        kind = test 0 (omega arith);
        numbers =
            record {
              n_low = n.0;
              n-high = n.1;
              k_low = k.0;
              k-high = k.1;
              d_low = d.0;
              d_high = d.1;
              node_low = i.0;
              node-high = i.1;
              l_low = l.0;
              l_high = l.1;
            };
        batch = omega (arith, room_batch);
      }

-- what can stand after these bytes, at index p
abbrev Follows : List ℕ → ℕ → Type 0
Follows xs p = (byte : ℕ) × (byte < 256) × (get_or (heads.head_tests (xs ++ byte ∷ [])) p true ≡ true)

-- a byte more
module _ (xs : List ℕ) (byte p : ℕ) (long : length xs ≡ p) where
  pub next_at : get_or (xs ++ byte ∷ []) p 0 ≡ byte
  next_at = get_or_at xs byte [] 0 p long

  pub kept_at : (i : ℕ) → i < p → get_or (xs ++ byte ∷ []) i 0 ≡ get_or xs i 0
  kept_at i h = get_or-append xs (byte ∷ []) 0 i (omega arith)

-- the least number that is allowed can stand next
next : (xs : List ℕ) → Bytes xs → (p : ℕ) → p < head_size (get_or xs 0 0) → length xs ≡ p → Passes heads xs p → Follows xs p
unfolding head_in is_kind
next xs bytes =
    each_offset (get_or xs 0 0) (λ p. length xs ≡ p → Passes heads xs p → Follows xs p)
    (λ e t. (1, omega arith, rw (next_at xs 1 0 e)))
    (λ e t. (3, omega arith, rw (next_at xs 3 1 e)))
    (λ e t.
    let n = between_true 3 most_nodes (get_or xs 1 0) (t 1 (omega arith)) in (
      2,
      omega arith,
      rw (next_at xs 2 2 e, kept_at xs 2 2 e 1 (omega arith), kept_at xs 2 2 e 0 (omega arith))
          (true_between 2 _ 2 (omega arith) ((row_laws (get_or xs 0 0)).some_k (get_or xs 1 0) n.0 n.1).0),
    ))
    (λ e t.
    let row = row_for_kind (get_or xs 0 0) in
    let n = between_true 3 most_nodes (get_or xs 1 0) (t 1 (omega arith)) in
    let k = between_true 2 (row.most_k (get_or xs 1 0)) (get_or xs 2 0) (t 2 (omega arith)) in
    let d = (row_laws (get_or xs 0 0)).some-d (get_or xs 1 0) (get_or xs 2 0) n.0 n.1 k.0 k.1 in
    let byte = row.least_d (get_or xs 1 0) (get_or xs 2 0) in (
      byte,
      omega (arith, d),
      rw (next_at xs byte 3 e, kept_at xs byte 3 e 2 (omega arith), kept_at xs byte 3 e 1 (omega arith), kept_at xs byte 3 e 0 (omega arith))
          (true_between byte _ byte (omega arith) d.0),
    ))
    (λ e t.
    let n = between_true 3 most_nodes (get_or xs 1 0) (t 1 (omega arith)) in
    (1, omega arith, rw (next_at xs 1 4 e, kept_at xs 1 4 e 1 (omega arith)) (true_between 1 (get_or xs 1 0) 1 (omega arith) (omega (arith, n)))))
    (λ q l e t.
    let row = row_for_kind (get_or xs 0 0) in
    let m =
    range_next (wide (get_or xs 0 0)) row.leastL row.most_l 5 xs q (row_laws (get_or xs 0 0)).some_l l (λ i h. any_byte xs bytes (5 + i))
    (λ i h. sym (length_test_lem (head_in xs) i) ∙ t (5 + i) (omega arith))
    in (
      m.0,
      m.1,
      length_test_lem (head_in (xs ++ m.0 ∷ [])) q
          ∙ ap (λ k. get_or (range_tests (wide k) (row_for_kind k).leastL (row_for_kind k).most_l (number_in (wide k) 5 (xs ++ m.0 ∷ []))) q true) (kept_at xs m.0 (5 + q) e 0 (omega arith))
          ∙ m.2 (xs ++ m.0 ∷ []) (λ i h. kept_at xs m.0 (5 + q) e (5 + i) (omega arith)) (next_at xs m.0 (5 + q) e),
    ))
    (λ q l e t. (
      0,
      omega arith,
      ap (λ k. get_or (head_tests (head_in (xs ++ 0 ∷ []))) (5 + wide k + q) true) (sym (kept_at xs 0 (5 + wide (get_or xs 0 0) + q) e 0 (omega arith)))
          ∙ batch_test (head_in (xs ++ 0 ∷ [])) q,
    ))

pub lawful : Lawful heads
unfolding head_in head_size
lawful =
    record {
      some = λ kind. omega arith;
      sized = λ h w. record_long h;
      passed =
          λ h w rest p l.
          ap (λ g. get_or (head_tests g) p true) (told h w rest) ∙ tests_hold h w p l;
      told = told;
      same_head = same_numbers;
      same_test = same_test;
      ranged = λ xs bytes long test. ranged xs bytes test;
      own = λ xs bytes long test. own_below xs bytes;
      next = λ xs bytes h test. next xs bytes (length xs) h refl test;
    }
