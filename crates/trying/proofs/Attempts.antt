-- A try: the ids at the front of an array are those that may be read, and what is collected of them has the file's length.
use native.Mathlib.Omega.{arith}
use mathlib.Core.Path.{◌≡◌, sym, ap, subst, ◌∙◌}
use mathlib.Core.List.{List}
use Prim.Native.Nat.{ℕ, ◌-◌}
use native.Mathlib.Nat.{sub-zero}
use lib.ListN.{length, take, drop}
use Rattle.letters.specs.Algebra.{xors}
use Rattle.group.specs.declared.Group.{Group}
use Rattle.lengths.specs.Lengths.{file_letters}
use Rattle.matrix.specs.Pieces.{reading, Chosen}
use Rattle.columns.specs.Steps.Columns.{Collected}
use Rattle.agreement.specs.Steps.Trying.{kept_rank, kept_ids, Tried}
use Rattle.agreement.proofs.Choices.{choice_without, kept_chosen}
use Rattle.present.specs.Steps.Places.{Present}
use Rattle.gathering.specs.Steps.Gathered.{KeptIds, collected_without}
use Rattle.gathering.proofs.Gathering.{length_collected}

module _ (g : Group) (ids handed : List ℕ) (b : ℕ) (here : Present g ids handed) (kept file : List ℕ) (is : file ≡ collected_without g ids handed b)
    (k : KeptIds g ids b kept) where
  front : take (g.k - 0) (drop 0 kept) ≡ kept_ids g ids (kept_rank b)
  front = ap (λ n. take n kept) (sub-zero g.k) ∙ k.front

  pub kept_collected : Collected g (take (g.k - 0) (drop 0 kept)) file
  kept_collected =
      record {
        chosen =
            subst (Chosen g g.k) (sym front)
            (kept_chosen g ids here.chosen (kept_rank b) (choice_without g ids here.chosen b (omega (arith, here.spare))));
        long = ap length is ∙ length_collected g ids handed b here;
      }

  -- what is recovered from them is a try
  pub tried_file :
      (after : List ℕ) → (length after ≡ file_letters g) × (reading xors g after (take (g.k - 0) (drop 0 kept)) ≡ file) → Tried g ids handed b after
  tried_file after w = record { long = w.0; reads = ap (reading xors g after) (sym front) ∙ w.1 ∙ is }
