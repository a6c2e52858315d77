-- The line that was put is the line of the judgment.
use mathlib.Core.Path.{◌≡◌, refl, ap, sym, subst, ◌∙◌}
use mathlib.Core.List.{List, ◌++◌}
use Prim.Native.Nat.{ℕ, ◌+◌, ◌≤◌, ◌<◌}
use native.Mathlib.Omega.{arith}
use lib.ListN.{length, take, drop, length-append}
use lib.Seq.{take_at}
use Rattle.std.specs.Prelude.{Result}
use Rattle.io.specs.Counts.{IsPrefixLen}
use Rattle.group.specs.Answers.{Outcome}
use Rattle.heads.specs.declared.Head.{Head}
use Rattle.heads.proofs.HeadLaws.{total_of}
use Rattle.judging.specs.declared.Fault.{Fault}
use Rattle.judging.specs.Judging.{outcome_of, Judges}
use Rattle.text.specs.Text.{Put}
use Rattle.verdict_words.specs.Words.{complete_line}
use Rattle.verdict.specs.Line.{too_long_line, line_for, judgment_line, Line, Told}

-- the judgment of some bytes has their line: a share's numbers are in range, so that T is what the head says
pub judged_line : {xs : List ℕ} {j : Outcome Head} → Judges xs j → judgment_line j ≡ line_for j
judged_line (Judges.complete h letters s) = ap (complete_line h) (total_of h s.allowed)
judged_line (Judges.unfinished b) = refl
judged_line (Judges.malformed r q w) = refl

-- a line that is put at the start is told
pub told : {xs before after text : List ℕ} {r : ℕ} → Line xs text → Put before 0 text r after → Told xs before r after
told {before = before} {text = text} line put =
    let z : 0 + length text ≡ length text = omega arith in
    record { text = text; line = line; count = put.count ∙ z; holds = put.holds ∙ ap (λ n. text ++ drop n before) z }

-- too many bytes have theirs
pub told_long : {xs before after : List ℕ} {r : ℕ} → 65536 < length xs → Put before 0 too_long_line r after → Told xs before r after
told_long l put = told (Line.long l) put

-- what is put at the start counts bytes there
pub counted : {before after text : List ℕ} {r : ℕ} → Put before 0 text r after → IsPrefixLen r after
counted {before} {after} {text} {r} put =
    let rest = drop (0 + length text) before in
    let e : after ≡ text ++ rest = put.holds in
    let n : length text ≡ r = omega (arith, put.count) in
    (omega (arith, ap length e, length-append text rest), sym n ∙ ap length (sym (ap (take r) e ∙ take_at text rest r n)))

-- the line of the judgment of these bytes is told
pub told_judged :
    {xs before after : List ℕ} {r : ℕ} (j : Result Head Fault) → length xs ≤ 65536 → Judges xs (outcome_of j) → Put before 0 (judgment_line (outcome_of j)) r after
    → Told xs before r after
told_judged {before = before} {after = after} {r = r} j short judges put =
    told (Line.judged (outcome_of j) short judges) (subst (λ k. Put before 0 k r after) (judged_line judges) put)
