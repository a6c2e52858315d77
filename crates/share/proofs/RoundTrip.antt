-- Reading undoes writing, and writing undoes reading: both speak of the same share.
use mathlib.Core.Path.{◌≡◌, sym, ap, ap₂, ◌∙◌}
use mathlib.Core.List.{List}
use Prim.Native.Nat.{ℕ, ◌^◌, ◌<◌}
use lib.ListN.{length}
use borrow.Author.Tests.{eq-eqb}
use Rattle.group.specs.Answers.{Answer}
use Rattle.group.specs.Answers.{if_fine, Outcome}
use Rattle.group.proofs.Refusals.{exact_lengths, first_none}
use Rattle.records.specs.Records.{size_for}
use Rattle.letters.specs.Lanes.{Bytes}
use Rattle.layout.specs.Share.{share_of, ShareOf}
use Rattle.layout.proofs.LaidOut.{share_length}
use Rattle.heads.specs.declared.Head.{Head}
use Rattle.kinds.specs.Kinds.{row_for_kind}
use Rattle.kinds.proofs.RowLaws.{kind_fine, total_fine}
use Rattle.heads.specs.Heads.{heads}
use Rattle.reading.specs.Reading.{Reads}
use Rattle.share.specs.Calls.{kind_bytes, head_letters, head_bytes, fit_refusal, write_refusal, Written}
use Rattle.heads.proofs.HeadLaws.{record_long, fine_numbers, total_of}
use Rattle.reading.proofs.Outcomes.{same_reading}

-- what a call that isn't refused writes is a share
pub written :
    (h : Head) (letters before after : List ℕ) (r : Answer) → h.batch < 2 ^ 32 → Bytes letters
    → write_refusal h (length letters) (length before) ≡ 0
    → Written h letters before r after → ShareOf heads h letters after
unfolding write_refusal fit_refusal
written h letters before after r batch bytes e w =
    let a = first_none ((row_for_kind h.kind).refusal h.group h.node) (fit_refusal h (length letters) (length before)) e in
    record {
      allowed = fine_numbers h batch a.0;
      count =
          (exact_lengths (length letters) (head_letters h) (length before) (head_bytes h) a.1).0
          ∙ sym (total_fine h.kind h.group h.node a.0);
      bytes = bytes;
      is = w.held ∙ ap (λ n. if_fine n (share_of heads h letters) before) e;
    }

-- Read after write gives back head and letters: whatever the buffer of that length held.
pub read_after_write :
    (h : Head) (letters before xs buffer after : List ℕ) (r : Answer) (found : Outcome Head) → h.batch < 2 ^ 32 → Bytes letters
    → write_refusal h (length letters) (length before) ≡ 0
    → Written h letters before r xs
    → length buffer ≡ length letters → Reads xs buffer found after → (found ≡ Outcome.fine h) × (after ≡ letters)
read_after_write h letters before xs buffer after r found batch bytes e w l s =
    same_reading s (Reads.complete h letters (written h letters before xs r batch bytes e w) l)

-- no check refuses to write a share again
fits : (h : Head) (letters xs : List ℕ) → ShareOf heads h letters xs → write_refusal h (length letters) (length xs) ≡ 0
unfolding write_refusal fit_refusal kind_bytes
fits h letters xs s =
    simp (kind_fine h.kind h.group h.node s.allowed.kind s.allowed.numbers, eq-eqb (length letters) (head_letters h) count, eq-eqb (length xs) (head_bytes h) long)
  where
    count : length letters ≡ head_letters h
    count = s.count ∙ total_of h s.allowed

    long : length xs ≡ head_bytes h
    long = ap length s.is ∙ share_length heads h letters ∙ ap₂ size_for (record_long h) count

-- what read takes as complete is a share
pub read_share : {xs before after : List ℕ} {h : Head} → Reads xs before (Outcome.fine h) after → ShareOf heads h after xs
read_share (Reads.complete h letters s l) = s

-- What read takes as complete, write would have written, byte for byte.
pub write_after_read :
    (h : Head) (xs buffer letters before after : List ℕ) (r : Answer) → Reads xs buffer (Outcome.fine h) letters
    → length before ≡ length xs → Written h letters before r after → after ≡ xs
write_after_read h xs buffer letters before after r s l w =
    let share = read_share s in
    let fine = fits h letters xs share in
    w.held
    ∙ ap (λ n. if_fine (write_refusal h (length letters) n) (share_of heads h letters) before) l
    ∙ ap (λ n. if_fine n (share_of heads h letters) before) fine
    ∙ sym share.is
