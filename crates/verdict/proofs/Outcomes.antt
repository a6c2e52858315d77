-- The contract of `line` allows one outcome: any bytes have one line, and it tells the answer and the buffer.
use mathlib.Core.Path.{◌≡◌, refl, ap, sym, ◌∙◌}
use mathlib.Core.List.{List, ◌++◌}
use Prim.Native.Nat.{ℕ}
use native.Mathlib.Omega.{arith}
use lib.ListN.{length, drop}
use Rattle.judging.proofs.Outcomes.{same_judging}
use Rattle.verdict.specs.Line.{line_for, Line, Told}

-- any bytes have one line
pub one_line : {xs a b : List ℕ} → Line xs a → Line xs b → a ≡ b
one_line (Line.long l) (Line.long l') = refl
one_line (Line.long l) (Line.judged j s w) = absurd (omega arith)
one_line (Line.judged j s w) (Line.long l) = absurd (omega arith)
one_line (Line.judged j s w) (Line.judged j' s' w') = ap line_for (same_judging w w')

-- `line` has one answer, and leaves one buffer.
pub told_once :
    {xs before after after' : List ℕ} {r r' : ℕ} → Told xs before r after → Told xs before r' after' → (r ≡ r') × (after ≡ after')
told_once {xs} {before} t u =
    let e = one_line t.line u.line in
    (t.count ∙ ap length e ∙ sym u.count, t.holds ∙ ap (λ l. l ++ drop (length l) before) e ∙ sym u.holds)
