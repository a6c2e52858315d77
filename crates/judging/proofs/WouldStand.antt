-- How the first byte is refused that can't stand: where it would stand tells, in any share that the bytes before it begin.
use mathlib.Core.Path.{◌≡◌, refl, sym, ap, ap₂, subst, ◌∙◌}
use mathlib.Core.Bool.{false}
use mathlib.Core.List.{List, ◌++◌}
use mathlib.Core.Logic.{⊎_elim}
use Prim.Native.Nat.{ℕ, zero, suc, ◌+◌, ◌*◌, ◌≤◌, ◌<◌}
use native.Mathlib.Omega.{arith}
use lib.ListN.{length, get_or, take, get_or-append}
use lib.Seq.{get_or-take, length-take-le}
use Rattle.letters.specs.Lanes.{Bytes}
use Rattle.letters.proofs.Cases.{le_or_lt, eq_or_ne}
use Rattle.group.specs.declared.Refusal.{Refusal}
use Rattle.group.specs.declared.Refusal.TheVariants.{Kind, HeadNumber}
use Rattle.records.specs.Records.{block_letters, block_size, end_size, blocks}
use Rattle.records.specs.Steps.Places.{block_stands, offset_at}
use Rattle.records.proofs.Places.{head_at, block_at}
use Rattle.layout.specs.Layout.{size_in, total_in}
use Rattle.layout.specs.Laws.{SameBelow}
use Rattle.layout.specs.Judgment.{Offends}
use Rattle.layout.specs.Steps.Stands.{stands}
use Rattle.layout.proofs.Stands.{head, block, end, some_place, stands_block, letter_stands}
use Rattle.layout.proofs.Judgments.{not_both, share_head, share_front, wrong_if}
use Rattle.heads.specs.Heads.{heads}
use Rattle.heads.proofs.HeadLaws.{lawful}
use Rattle.judging.specs.Judging.{WouldStand, Wrong}
use Rattle.refusing.specs.Steps.Refusing.{refusal_at}
use Rattle.refusing.proofs.Places.{at_after, at_kind, at_number, at_filler, at_total}

offset_of : (front r j q : ℕ) → j < block_size → q ≡ front + (r * block_size + j) → offset_at front q ≡ j
offset_of front r j q l e = ap (offset_at front) e ∙ (block_at front r j l).1

-- each place has one refusal
pub would_once : (front letters q : ℕ) (r : Refusal) → 1 ≤ front → WouldStand front letters q r → r ≡ refusal_at front letters q
would_once front letters q r some WouldStand.head_kind = sym (at_kind front letters 0 (omega arith) (head_at front 0 some).1)
would_once front letters q r some (WouldStand.kind b le) =
    sym (at_kind front letters (front + b * block_size) (omega arith) (offset_of front b 0 (front + b * block_size) (omega arith) (omega arith)))
would_once front letters q r some (WouldStand.head_number p low high) =
    sym (at_number front letters p (omega arith) (λ e. omega (arith, (head_at front p high).1)) high)
would_once front letters q r some (WouldStand.filler b j lb lj past) =
    let e : offset_at front (front + b * block_size + suc j) ≡ suc j = offset_of front b (suc j) (front + b * block_size + suc j) (omega arith) (omega arith) in
    sym (at_filler front letters (front + b * block_size + suc j) (omega arith) (λ z. omega (arith, e)) (omega arith) (omega arith))
would_once front letters q r some (WouldStand.total j lj) =
    let e : offset_at front (front + blocks letters * block_size + suc j) ≡ suc j =
    offset_of front (blocks letters) (suc j) (front + blocks letters * block_size + suc j) (omega arith) (omega arith)
    in
    sym (at_total front letters (front + blocks letters * block_size + suc j) (omega arith) (λ z. omega (arith, e)) (omega arith))
would_once front letters q r some (WouldStand.after_end p h) = sym (at_after front letters p h)

-- and so has every index but a letter's
module _ (front letters q : ℕ) (some : 1 ≤ front)
    (no-letter : (r j : ℕ) → r < blocks letters → j < block_letters → q ≡ front + (r * block_size + suc j) → letters ≤ r * block_letters + j) where
  move : {p : ℕ} {r s : Refusal} → q ≡ p → s ≡ r → WouldStand front letters p r → WouldStand front letters q s
  move e f w = rw (e, f) w

  pub would_stand : WouldStand front letters q (refusal_at front letters q)
  would_stand =
      elim (some_place front letters q) [
        | head l ↦
            ⊎_elim
            (λ first. move first (at_kind front letters q (omega arith) ((head_at front q l).1 ∙ first)) WouldStand.head_kind)
            (λ later.
            move refl (at_number front letters q (omega arith) (λ e. later (sym (head_at front q l).1 ∙ e)) l) (WouldStand.head_number q (omega (arith, later)) l))
            (eq_or_ne q 0)
        | block r j hr hj e ↦ in_block r j hr hj e
        | end j e ↦ in_end j e
      ]
    where
      in_block : (r j : ℕ) → r < blocks letters → j < block_size → q ≡ front + (r * block_size + j) → WouldStand front letters q (refusal_at front letters q)
      in_block r zero hr hj e =
          move (omega arith) (at_kind front letters q (omega arith) (offset_of front r 0 q (omega arith) e)) (WouldStand.kind r (omega arith))
      in_block r (suc j) hr hj e =
          move (omega arith) (at_filler front letters q (omega arith) (λ z. omega (arith, offset_of front r (suc j) q hj e)) (omega arith) (omega arith))
          (WouldStand.filler r j hr (omega arith) (no-letter r j hr (omega arith) e))

      in_end : (j : ℕ) → q ≡ front + (blocks letters * block_size + j) → WouldStand front letters q (refusal_at front letters q)
      in_end zero e =
          move (omega arith) (at_kind front letters q (omega arith) (offset_of front (blocks letters) 0 q (omega arith) e)) (WouldStand.kind (blocks letters) (omega arith))
      in_end (suc j) e =
          ⊎_elim (λ past. move refl (at_after front letters q (omega arith)) (WouldStand.after_end q (omega arith)))
          (λ within.
          move (omega arith)
          (at_total front letters q (omega arith) (λ z. omega (arith, offset_of front (blocks letters) (suc j) q (omega arith) e)) (omega arith))
          (WouldStand.total j (omega arith)))
          (le_or_lt end_size (suc j))

-- Bytes that are the same before an index have one size of the head there, where there are any, and one T, where the head is in.
module _ (xs zs : List ℕ) (q : ℕ) (same : SameBelow q xs zs) where
  same_front : 1 ≤ q → size_in heads xs ≡ size_in heads zs
  same_front some = ap heads.head_size (same 0 some)

  same_total : size_in heads xs ≤ q → total_in heads xs ≡ total_in heads zs
  same_total long = ap heads.total (lawful.same_head xs zs (λ i l. same i (omega arith)))

  -- So the byte there is refused in one way, whichever bytes come from there on.
  pub same_refusal : refusal_at (size_in heads xs) (total_in heads xs) q ≡ refusal_at (size_in heads zs) (total_in heads zs) q
  same_refusal =
      ⊎_elim
      (λ first. kind xs first ∙ sym (kind zs first))
      (λ later.
      let front = same_front (omega (arith, later)) in
      ⊎_elim (λ long. ap₂ (λ f t. refusal_at f t q) front (same_total long))
      (λ few. number xs later few ∙ sym (number zs later (omega (arith, front))))
      (le_or_lt (size_in heads xs) q))
      (eq_or_ne q 0)
    where
      kind : (ys : List ℕ) → q ≡ 0 → refusal_at (size_in heads ys) (total_in heads ys) q ≡ Kind
      kind ys e =
          let some = lawful.some (get_or ys 0 0) in
          at_kind (size_in heads ys) (total_in heads ys) q (omega (arith, some)) (ap (offset_at (size_in heads ys)) e ∙ (head_at (size_in heads ys) 0 some).1)

      number : (ys : List ℕ) → (q ≡ 0 → ⊥) → q < size_in heads ys → refusal_at (size_in heads ys) (total_in heads ys) q ≡ HeadNumber
      number ys later few =
          at_number (size_in heads ys) (total_in heads ys) q (omega arith) (λ e. later (sym (head_at (size_in heads ys) q few).1 ∙ e)) few

-- the bytes before an index, with any after them
same_begun : (xs rest : List ℕ) (q : ℕ) → q ≤ length xs → SameBelow q (take q xs ++ rest) xs
same_begun xs rest q h i l = get_or-append (take q xs) rest 0 i (omega (arith, length-take-le q xs h)) ∙ get_or-take q xs i 0 l

-- a letter's place is never wrong
not_letter :
    (xs : List ℕ) (q : ℕ) → stands heads xs q ≡ false → (r j : ℕ) → r < blocks (total_in heads xs) → j < block_letters
    → q ≡ size_in heads xs + (r * block_size + suc j) → total_in heads xs ≤ r * block_letters + j
unfolding block_stands
not_letter xs q wrong r j hr hj e =
    ⊎_elim (λ past. past)
    (λ within.
    absurd
    (not_both (stands heads xs q)
    (ap (stands heads xs) e
    ∙ stands_block heads xs (size_in heads xs) (total_in heads xs) refl refl r (suc j) hr (omega arith)
    ∙ letter_stands (total_in heads xs) r j (get_or xs (size_in heads xs + (r * block_size + suc j)) 0) (λ past. absurd (omega arith)))
    wrong))
    (le_or_lt (total_in heads xs) (r * block_letters + j))

-- where a byte that doesn't stand would stand in other bytes that begin with those before it
begun_place :
    (xs zs : List ℕ) (q front letters : ℕ) → SameBelow q zs xs → stands heads xs q ≡ false → size_in heads zs ≡ front → total_in heads zs ≡ letters
    → WouldStand front letters q (refusal_at (size_in heads xs) (total_in heads xs) q)
begun_place xs zs q front letters same wrong ef et =
    subst (WouldStand front letters q) (ap₂ (λ f t. refusal_at f t q) (sym ef) (sym et) ∙ same_refusal zs xs q same)
    (would_stand front letters q some
    (λ r j hr hj e.
    let size : size_in heads xs ≡ front = sym (same_front zs xs q same (omega arith)) ∙ ef in
    let total : total_in heads xs ≡ letters = sym (same_total zs xs q same (omega arith)) ∙ et in
    omega (arith, not_letter xs q wrong r j (omega arith) hj (omega arith))))
  where
    some : 1 ≤ front
    some = omega (arith, lawful.some (get_or zs 0 0))

-- The first byte that can't stand is refused by where it would stand, in whatever share the bytes before it begin,
pub wrong_at : (xs : List ℕ) (q : ℕ) → Bytes xs → Offends heads xs q → Wrong xs (refusal_at (size_in heads xs) (total_in heads xs) q) q
wrong_at xs q bytes o =
    let rest = o.before.0 in
    let zs = take q xs ++ rest in
    let share = o.before.1.2 in
    record {
      offends = o;
      head = o.before.1.0;
      rest = rest;
      begins = (o.before.1.1, share);
      place =
          begun_place xs zs q _ _ (same_begun xs rest q (omega (arith, o.within))) (wrong_if heads lawful xs q bytes o).wrong
          (share_front heads lawful _ _ zs share) (ap heads.total (share_head heads lawful _ _ zs share));
    }

-- and in no other way.
pub wrong_once : (xs : List ℕ) (r : Refusal) (q : ℕ) → Wrong xs r q → r ≡ refusal_at (size_in heads xs) (total_in heads xs) q
wrong_once xs r q w =
    let zs = take q xs ++ w.rest in
    let share = w.begins.1 in
    let front : length (heads.head_record w.head) ≡ size_in heads zs = sym (share_front heads lawful w.head w.begins.0 zs share) in
    would_once (length (heads.head_record w.head)) (heads.total w.head) q r (omega (arith, front, lawful.some (get_or zs 0 0))) w.place
    ∙ ap₂ (λ f t. refusal_at f t q) front (ap heads.total (sym (share_head heads lawful w.head w.begins.0 zs share)))
    ∙ same_refusal zs xs q (same_begun xs w.rest q (omega (arith, w.offends.within)))
