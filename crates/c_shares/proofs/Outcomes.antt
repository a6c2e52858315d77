-- What each exported call's contract says allows one number returned and one content of each lent number and buffer.
use mathlib.Core.Path.{◌≡◌, sym, ◌∙◌}
use mathlib.Core.List.{List}
use mathlib.Core.Logic.{⊎_elim}
use Prim.Native.Nat.{ℕ}
use lib.ListN.{length}
use Rattle.letters.specs.Lanes.{Bytes}
use Rattle.letters.proofs.Cases.{eq_or_ne}
use Rattle.judging.proofs.Verdicts.{one_good}
use Rattle.judging.proofs.Outcomes.{same_judging}
use Rattle.reading.proofs.Outcomes.{same_reading}
use Rattle.c_judgment.proofs.Outcomes.{judgment_told_once}
use Rattle.c_shares.specs.Shares.{JudgesShare, ReadsShare, TellsGoodBytes}
use Rattle.c_shares.proofs.Judged.{read_told, judged_told}

-- bytes have one judgment
pub judges_share_once :
    {bytes head after after' : List ℕ} {r r' : ℕ} → JudgesShare bytes head r after → JudgesShare bytes head r' after' → (r ≡ r') × (after ≡ after')
judges_share_once p q = judgment_told_once (same_judging p.judges q.judges) p.told q.told

-- reading finds one thing where the head has seven numbers, and judging one where it has not
pub reads_share_once :
    {bytes packets head held held' after after' : List ℕ} {r r' : ℕ} → ReadsShare bytes packets head r held after
    → ReadsShare bytes packets head r' held' after' → (r ≡ r') × (held ≡ held') × (after ≡ after')
reads_share_once {head = head} p q =
    ⊎_elim
    (λ e.
    let a = read_told e p in
    let b = read_told e q in
    let o = same_reading a.1 b.1 in
    let t = judgment_told_once o.0 a.2 b.2 in
    (t.0, o.1, t.1))
    (λ n.
    let a = judged_told n p in
    let b = judged_told n q in
    let t = judges_share_once a.0 b.0 in
    (t.0, a.1 ∙ sym b.1, t.1))
    (eq_or_ne (length head) 7)

-- one number of bytes can stand
pub good_bytes_once :
    (bytes : List ℕ) → Bytes bytes → {r r' count count' : ℕ} → TellsGoodBytes bytes r count → TellsGoodBytes bytes r' count'
    → (r ≡ r') × (count ≡ count')
good_bytes_once bytes b p q = (p.returned ∙ sym q.returned, one_good bytes b _ _ p.stand q.stand)
