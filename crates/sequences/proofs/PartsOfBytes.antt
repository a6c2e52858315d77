-- A buffer whose parts are bytes is bytes: its last bytes have the same parts, and no other buffer has.
use mathlib.Core.Path.{◌≡◌, sym, ◌∙◌}
use mathlib.Core.List.{List, map}
use Prim.Native.Nat.{ℕ, ◌*◌}
use lib.ListN.{length, length-map}
use Rattle.letters.specs.Algebra.{xors, bytes}
use Rattle.letters.specs.Lanes.{Bytes}
use Rattle.letters.proofs.Carried.{last_byte, last_carries, bytes_kept, kept_bytes}
use Rattle.system.specs.Order.{Ordered}
use Rattle.sequences.specs.Parts.{parts_of}
use Rattle.sequences.proofs.CarriedRuns.{parts_carried}
use Rattle.sequences.proofs.Parts.{one_buffer, exactly_one_buffer}

module _ (s n : ℕ) (t : ℕ → ℕ → ℕ) (ordered : Ordered s t) where
  pub buffer_bytes : (xs : List ℕ) → length xs ≡ s * n → Bytes (parts_of xors s n t xs) → Bytes xs
  buffer_bytes xs long b =
      kept_bytes xs
      (one_buffer bytes s n t ordered (map last_byte xs) xs (length-map xs last_byte ∙ long) long
      (sym (parts_carried xors xors last_byte last_carries s n t xs) ∙ bytes_kept (parts_of xors s n t xs) b))

  -- any pieces of bytes are the parts of exactly one buffer, and that is bytes
  pub exactly_one_buffer_of_bytes :
      (pieces : List ℕ) → length pieces ≡ s * n → Bytes pieces
      → (xs : List ℕ) × (length xs ≡ s * n) × Bytes xs × (parts_of xors s n t xs ≡ pieces)
      × ((other : List ℕ) → length other ≡ s * n → parts_of xors s n t other ≡ pieces → other ≡ xs)
  exactly_one_buffer_of_bytes pieces long b =
      let one = exactly_one_buffer bytes s n t ordered pieces long in
      (one.0, one.1, buffer_bytes one.0 one.1 (rw one.2 b), one.2, one.3)
