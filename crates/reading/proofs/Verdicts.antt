-- What reading answers is what the bytes are, and the letters are those of the share.
use mathlib.Core.Path.{◌≡◌, sym, ap, ◌∙◌}
use mathlib.Core.List.{List}
use Prim.Native.Nat.{ℕ, ◌≤◌}
use native.Mathlib.Omega.{arith}
use lib.ListN.{length}
use lib.Seq.{ext_get_or}
use Rattle.group.specs.declared.Refusal.{Refusal}
use Rattle.group.specs.Answers.{refusal_number, Outcome}
use Rattle.records.specs.Records.{size_for}
use Rattle.block_letters.specs.Steps.Blocks.{Copied}
use Rattle.layout.specs.Layout.{size_in}
use Rattle.layout.specs.Judgment.{IsShareOf}
use Rattle.layout.proofs.Judgments.{share_front, share_size, share_total, letter_byte}
use Rattle.heads.specs.declared.Head.{Head}
use Rattle.heads.specs.Heads.{heads}
use Rattle.reading.specs.Reading.{Reads}
use Rattle.std.specs.Prelude.{Ok, Err}
use Rattle.judging.specs.declared.Fault.{Fault}
use Rattle.judging.specs.Judging.{outcome_of, Judges}
use Rattle.kinds.specs.Kinds.{head_size}
use Rattle.heads.proofs.HeadLaws.{lawful, record_long}

-- bytes that are refused are read as they are judged, whatever the buffer
pub found_refused : (before : List ℕ) {xs : List ℕ} {n : ℕ} → Judges xs (Outcome.refused n) → Reads xs before (Outcome.refused n) before
found_refused before (Judges.unfinished b) = Reads.unfinished b

pub found_malformed :
    (before : List ℕ) {xs : List ℕ} {n q : ℕ} → Judges xs (Outcome.wrong n q) → Reads xs before (Outcome.wrong n q) before
found_malformed before (Judges.malformed r q w) = Reads.malformed r q w

pub found_fault : (before : List ℕ) {xs : List ℕ} (f : Fault) → Judges xs (outcome_of (Err f)) → Reads xs before (outcome_of (Err f)) before
found_fault before (Fault.Refused r) j = found_refused before j
found_fault before (Fault.Malformed r q) j = found_malformed before j

-- reading a share into a buffer of some length
module _ (h : Head) (xs before : List ℕ) (s : IsShareOf heads h xs) where
  pub no_room : (length before ≡ heads.total h → ⊥) → Reads xs before (Outcome.refused (refusal_number Refusal.Output)) before
  no_room n = Reads.misfit h s.0 s.1 (λ e. n (e ∙ s.1.count))

  -- the size of its head is that of its kind
  same_front : head_size h.kind ≡ size_in heads xs
  same_front = sym (record_long h) ∙ sym (share_front heads lawful h s.0 xs s.1)

  pub room : length before ≡ heads.total h → size_for (head_size h.kind) (length before) ≤ length xs
  room e =
      rw same_front (omega
      (arith, share_size heads lawful xs (h, s.0, s.1), ap (size_for (size_in heads xs)) (e ∙ sym s.1.count ∙ sym (share_total heads lawful h s.0 xs s.1))))

  pub copied_read :
      (after : List ℕ) → length before ≡ heads.total h → Copied (head_size h.kind) xs (length before) after
      → Reads xs before (Outcome.fine h) after
  copied_read after e copied =
      rw same (Reads.complete h s.0 s.1 (e ∙ sym s.1.count))
    where
      c : Copied (size_in heads xs) xs (length before) after
      c = rw (sym same_front) copied

      same : after ≡ s.0
      same =
          ext_get_or 0 after s.0 (c.counted ∙ e ∙ sym s.1.count)
          (λ i l. c.copied i (omega (arith, c.counted)) ∙ sym (letter_byte heads lawful h s.0 xs s.1 i (omega (arith, c.counted, e, s.1.count))))
