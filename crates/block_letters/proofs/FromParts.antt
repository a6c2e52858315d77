-- A share that is laid part by part, from its front to its back, is the share: no byte is left, and each part has its own.
use mathlib.Core.Path.{◌≡◌, sym, ap, ◌∙◌}
use mathlib.Core.List.{List}
use Prim.Native.Nat.{ℕ, ◌+◌, ◌-◌, ◌*◌, ◌/◌, ◌%◌, ◌≤◌, ◌<◌}
use native.Mathlib.Omega.{arith}
use lib.ListN.{length, get_or}
use lib.Seq.{ext_get_or}
use Rattle.letters.specs.Laid.{Laid}
use Rattle.letters.proofs.Laying.{laid_on, laid_as}
use Rattle.records.specs.Records.{block_letters, block_size, blocks, size_for, end_record}
use Rattle.block_letters.specs.Steps.Blocks.{blocks_byte}
use Rattle.layout.specs.Layout.{Layout}
use Rattle.layout.specs.Share.{share_of}
use Rattle.layout.proofs.LaidOut.{share_length, in_head, in_blocks, in_end}

-- the full blocks are no more than all
full_within : (T : ℕ) → T / block_letters * block_size ≤ blocks T * block_size
full_within T = omega arith

module _ {Head : Type 0} (y : Layout Head) (h : Head) (letters : List ℕ) (H : ℕ) (size : length (y.head_record h) ≡ H) where
  byte : ℕ → ℕ
  byte p = get_or (share_of y h letters) p 0

  in_block : (p : ℕ) → H ≤ p → p < H + blocks (length letters) * block_size → blocks_byte H letters p ≡ byte p
  unfolding byte
  in_block p lo hi =
      sym
      (ap (λ i. get_or (share_of y h letters) i 0) (place p lo)
      ∙ in_blocks y h letters H size ((p - H) / block_size) ((p - H) % block_size) (quotient (p - H) (blocks (length letters)) (omega arith)) (omega arith))
    where
      place : (p : ℕ) → H ≤ p → p ≡ H + ((p - H) / block_size * block_size + (p - H) % block_size)
      place p lo = omega arith

      quotient : (q b : ℕ) → q < b * block_size → q / block_size < b
      quotient q b h = omega arith

  in_back :
      (p : ℕ) → H + blocks (length letters) * block_size ≤ p
      → get_or (end_record (length letters)) (p - (H + blocks (length letters) * block_size)) 0 ≡ byte p
  unfolding byte
  in_back p lo =
      sym
      (ap (λ i. get_or (share_of y h letters) i 0) (place p (blocks (length letters)) lo)
      ∙ in_end y h letters H size (p - (H + blocks (length letters) * block_size)))
    where
      place : (p b : ℕ) → H + b * block_size ≤ p → p ≡ H + (b * block_size + (p - (H + b * block_size)))
      place p b lo = omega arith

  pub share_laid :
      (xs front full last back : List ℕ) → length xs ≡ size_for H (length letters)
      → Laid xs front 0 H (λ p. get_or (y.head_record h) p 0)
      → Laid front full H (H + length letters / block_letters * block_size) (blocks_byte H letters)
      → Laid full last (H + length letters / block_letters * block_size) (H + blocks (length letters) * block_size) (blocks_byte H letters)
      → Laid last back (H + blocks (length letters) * block_size) (size_for H (length letters))
      (λ p. get_or (end_record (length letters)) (p - (H + blocks (length letters) * block_size)) 0)
      → back ≡ share_of y h letters
  unfolding byte
  share_laid xs front full last back long head some rest end =
      ext_get_or 0 back (share_of y h letters)
      (all.same_length ∙ long ∙ ap (λ n. size_for n (length letters)) (sym size) ∙ sym (share_length y h letters))
      (λ p l. all.laid p (omega arith) (omega (arith, all.same_length)))
    where
      b : ℕ
      b = blocks (length letters)

      all : Laid xs back 0 (size_for H (length letters)) byte
      all =
          laid_on xs last back 0 (H + b * block_size) (size_for H (length letters)) byte (omega arith) (omega arith)
          (laid_on xs front last 0 H (H + b * block_size) byte (omega arith) (omega arith)
          (laid_as xs front 0 H _ byte (λ p lo hi. sym (in_head y h letters p (omega arith))) head)
          (laid_as front last H (H + b * block_size) _ byte in_block
          (laid_on front full last H (H + length letters / block_letters * block_size) (H + b * block_size) (blocks_byte H letters) (omega arith)
          (omega (arith, full_within (length letters))) some rest)))
          (laid_as last back _ _ _ byte (λ p lo hi. in_back p lo) end)
