-- What writing answers and leaves, where a check refuses and where none does.
use Rattle.std.specs.Prelude.{Ok, Err}
use mathlib.Core.Path.{◌≡◌, refl, sym, ◌∙◌}
use mathlib.Core.List.{List}
use Prim.Native.Nat.{ℕ, zero, suc, ◌+◌, ◌-◌, ◌*◌, ◌/◌}
use lib.ListN.{length, get_or}
use Rattle.letters.specs.Laid.{Laid}
use Rattle.group.specs.declared.Refusal.{Refusal}
use Rattle.group.specs.Answers.{Answer}
use Rattle.group.specs.Answers.{refusal_number, first}
use Rattle.group.proofs.Refusals.{never_zero, first_fine, refuses, gives}
use Rattle.records.specs.Records.{block_size, block_letters, blocks, size_for, end_record}
use Rattle.layout.specs.Share.{share_of}
use Rattle.block_letters.specs.Steps.Blocks.{blocks_byte}
use Rattle.block_letters.proofs.FromParts.{share_laid}
use Rattle.kinds.specs.Kinds.{head_size}
use Rattle.heads.specs.declared.Head.{Head}
use Rattle.heads.specs.Heads.{head_record, heads}
use Rattle.heads.proofs.HeadLaws.{record_long}
use Rattle.share.specs.Calls.{Writes, head_bytes}

-- the four parts laid one after another are the share
pub laid_share :
    (h : Head) (letters : List ℕ) (H : ℕ) → H ≡ head_size h.kind → (xs front full last back : List ℕ)
    → length xs ≡ size_for (head_size h.kind) (length letters) → Laid xs front 0 (head_size h.kind) (λ p. get_or (head_record h) p 0)
    → Laid front full H (H + length letters / block_letters * block_size) (blocks_byte H letters)
    → Laid full last (H + length letters / block_letters * block_size) (H + blocks (length letters) * block_size) (blocks_byte H letters)
    → Laid last back (H + blocks (length letters) * block_size) (size_for H (length letters))
    (λ p. get_or (end_record (length letters)) (p - (H + blocks (length letters) * block_size)) 0)
    → back ≡ share_of heads h letters
laid_share h letters H e xs front full last back long head some rest end =
    share_laid heads h letters H (record_long h ∙ sym e) xs front full last back (rw e long) (rw e head) some rest end

module _ (h : Head) (letters before : List ℕ) where
  pub write_refused : (q : Refusal) (n : ℕ) → refusal_number q ≡ n → Writes h letters before n (Err q) before
  write_refused q zero e = absurd (never_zero q e)
  write_refused q (suc n) e = record { answered = refuses q (suc n) (head_bytes h) e; held = refl }

  pub write_done :
      (n bytes : ℕ) (after : List ℕ) → n ≡ 0 → bytes ≡ head_bytes h → after ≡ share_of heads h letters
      → Writes h letters before n (Ok bytes) after
  write_done n bytes after e b s =
      record { answered = gives n bytes (head_bytes h) e b; held = rw e s }

  -- the first of two checks is fine
  pub write_on : (a b : ℕ) (r : Answer) (after : List ℕ) → a ≡ 0 → Writes h letters before b r after → Writes h letters before (first a b) r after
  write_on a b r after e w = rw (first_fine a b e) w
