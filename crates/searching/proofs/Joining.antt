-- Bytes that come after others: where the search stops in them, from the index that they begin at, it stops in all of them.
use mathlib.Core.Path.{◌≡◌, refl, sym, ap, subst, ◌∙◌}
use mathlib.Core.Bool.{true}
use mathlib.Core.List.{List, [], ◌++◌}
use mathlib.Core.Logic.{⊎_elim}
use Prim.Native.Nat.{ℕ, suc, ◌+◌, ◌-◌, ◌/◌, ◌%◌, ◌≤◌, ◌<◌}
use native.Mathlib.Omega.{arith}
use lib.ListN.{length, get_or, length-append}
use lib.Seq.{get_or-append-add}
use Rattle.letters.proofs.Cases.{le_or_lt}
use Rattle.records.specs.Records.{block_size}
use Rattle.records.specs.Steps.Places.{record_stands, stands_in}
use Rattle.records.proofs.Places.{head_at, stands_placed}
use Rattle.layout.specs.Layout.{total_in}
use Rattle.layout.specs.Steps.Stands.{stands}
use Rattle.layout.proofs.Stands.{stands_head, stands_past}
use Rattle.heads.specs.declared.Head.{Head}
use Rattle.kinds.specs.Kinds.{head_size}
use Rattle.heads.specs.Heads.{head_in, head_tests, heads}
use Rattle.searching.specs.Steps.Search.{stands_at, Stops, StopsFrom}

-- the test of a byte in the head, and past it
module _ (h : Head) (p byte : ℕ) where
  pub at_head : p < head_size h.kind → stands_at h p byte ≡ get_or (head_tests h) p true
  unfolding stands_at stands_in
  at_head l = rw ((head_at (head_size h.kind) p l).0, (head_at (head_size h.kind) p l).1)

  pub at_past : head_size h.kind ≤ p → stands_at h p byte ≡ record_stands (heads.total h) ((p - head_size h.kind) / block_size) ((p - head_size h.kind) % block_size) byte
  unfolding stands_at stands_in
  at_past l =
      stands_placed (head_size h.kind) (head_tests h) (heads.total h) (suc ((p - head_size h.kind) / block_size)) ((p - head_size h.kind) % block_size) p byte (omega arith)
      (omega arith)

-- whether a byte stands is told by the head, the index and the byte
pub stands_at_lem : (zs : List ℕ) (p : ℕ) → stands heads zs p ≡ stands_at (heads.head_in zs) p (get_or zs p 0)
unfolding head_in
stands_at_lem zs p =
    ⊎_elim
    (λ past. stands_past heads zs (head_size (get_or zs 0 0)) (total_in heads zs) refl refl p past ∙ sym (at_past (heads.head_in zs) p (get_or zs p 0) past))
    (λ within. stands_head heads zs p within ∙ sym (at_head (heads.head_in zs) p (get_or zs p 0) within))
    (le_or_lt (head_size (get_or zs 0 0)) p)

module _ (xs ys : List ℕ) (q : ℕ) where
  -- of the bytes that come after others
  later : (p : ℕ) → stands heads (xs ++ ys) (length xs + p) ≡ stands_at (heads.head_in (xs ++ ys)) (length xs + p) (get_or ys p 0)
  later p = stands_at_lem (xs ++ ys) (length xs + p) ∙ ap (stands_at (heads.head_in (xs ++ ys)) (length xs + p)) (get_or-append-add xs ys p 0)

  pub joined :
      ((p : ℕ) → p < length xs → stands heads (xs ++ ys) p ≡ true) → StopsFrom (length xs) (heads.head_in (xs ++ ys)) ys q
      → Stops (xs ++ ys) (length xs + q)
  joined so_far s =
      record {
        within = omega (arith, s.within, length-append xs ys);
        before =
            λ p l.
            ⊎_elim
            (λ past. let e : p ≡ length xs + (p - length xs) = omega arith in rw e (later (p - length xs) ∙ s.before (p - length xs) (omega arith)))
            (so_far p) (le_or_lt (length xs) p);
        wrong = λ l. later q ∙ s.wrong (omega (arith, length-append xs ys));
      }

-- all of them, from the front
pub from_front : (xs : List ℕ) (q : ℕ) → StopsFrom 0 (heads.head_in xs) xs q → Stops xs q
from_front xs q s = let all : 0 + q ≡ q = omega arith in subst (Stops xs) all (joined [] xs q (λ p h. absurd (omega arith)) s)
