-- A list that passes the test is the table: the test at each entry is carried to the rule there.
use mathlib.Core.Path.{◌≡◌, ap, ap₂, ◌∙◌}
use mathlib.Core.Bool.{Bool, true, false, cond}
use mathlib.Core.List.{List, [], ◌∷◌}
use Prim.Native.Nat.{ℕ, zero, suc, ◌+◌, ◌-◌, ◌*◌, ◌/◌, ◌%◌, ◌≤◌, ◌<◌}
use native.Mathlib.Nat.{zero-add}
use native.Mathlib.Omega.{arith}
use lib.Arith.{digits_div, digits_mod}
use lib.Dec.{eqb}
use lib.ListN.{length, get_or}
use borrow.Author.Tests.{eqb-true}
use Rattle.shifts.specs.Rule.{t}
use Rattle.shifts.specs.Table.{Table, products_from, is_table}

-- both of two tests
cond_both : (a b : Bool) → cond a b false ≡ true → (a ≡ true) × (b ≡ true)
cond_both true b e = (cc, e)
cond_both false b e = (e, let z : ◌≡◌ {A = ℕ} 0 1 = ap (λ c. cond c 1 0) e in absurd (omega arith))

-- what stands at index k: the shift of node k / 16 + 1 and column k % 16 + 1
abbrev rule : ℕ → ℕ
rule k = t (k / 16 + 1) (k % 16 + 1)

tested_entry : (xs : List ℕ) (i k : ℕ) → products_from i xs ≡ true → k < length xs → get_or xs k 0 ≡ rule (i + k)
unfolding products_from
tested_entry [] i k e h = absurd (omega arith)
tested_entry (x ∷ xs) i zero e h =
    eqb-true x (rule i) (cond_both (eqb x (rule i)) (products_from (suc i) xs) e).0 ∙ ap rule (omega arith)
tested_entry (x ∷ xs) i (suc k) e h =
    tested_entry xs (suc i) k (cond_both (eqb x (rule i)) (products_from (suc i) xs) e).1 (omega arith) ∙ ap rule (omega arith)

rule_at : (i j : ℕ) → 1 ≤ i → 1 ≤ j → j ≤ 16 → rule ((i - 1) * 16 + (j - 1)) ≡ t i j
rule_at i j li lj hj =
    ap₂ t (ap (λ q. q + 1) (digits_div (i - 1) (omega arith)) ∙ omega arith) (ap (λ r. r + 1) (digits_mod (i - 1) (omega arith)) ∙ omega arith)

pub tested : (xs : List ℕ) → is_table xs ≡ true → Table xs
unfolding is_table
tested xs e =
    let w = cond_both (eqb (length xs) 256) (products_from 0 xs) e in
    let size = eqb-true (length xs) 256 w.0 in
    record {
      size = size;
      shifts =
          λ i j li hi lj hj.
          tested_entry xs 0 ((i - 1) * 16 + (j - 1)) w.1 (omega arith)
          ∙ ap rule (zero-add ((i - 1) * 16 + (j - 1)))
          ∙ rule_at i j li lj hj;
    }
