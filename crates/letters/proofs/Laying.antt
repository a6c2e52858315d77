-- Laws of what is laid: letter after letter, and part after part.
use mathlib.Core.Path.{◌≡◌, refl, ◌∙◌}
use mathlib.Core.List.{List}
use mathlib.Core.Logic.{⊎_elim}
use Prim.Native.Nat.{ℕ, ◌+◌, ◌≤◌, ◌<◌}
use native.Mathlib.Omega.{arith}
use lib.ListN.{length, set, length-set}
use lib.Seq.{get_or-set_same, get_or-set_other}
use Rattle.letters.proofs.Cases.{le_or_lt}
use Rattle.letters.specs.Laid.{Laid}

pub nothing_laid : (xs : List ℕ) (a b : ℕ) (byte : ℕ → ℕ) → b ≤ a → Laid xs xs a b byte
nothing_laid xs a b byte order = record { same_length = refl; before = λ p h. refl; laid = λ p lo hi. absurd (omega arith); after = λ p h. refl }

-- one letter more
pub laid_one :
    (xs ys : List ℕ) (a b c x : ℕ) (byte : ℕ → ℕ) → a ≤ b → c ≡ b + 1 → c ≤ length xs → Laid xs ys a b byte → x ≡ byte b
    → Laid xs (set ys b x) a c byte
laid_one xs ys a b c x byte order next fits w e =
    record {
      same_length = simp length-set w.same_length;
      before = λ p h. get_or-set_other ys b p x 0 (λ same. omega arith) ∙ w.before p h;
      laid =
          λ p lo hi.
          ⊎_elim
          (λ last.
          let here : p ≡ b = omega arith in
          rw here (get_or-set_same ys b x 0 (omega (arith, w.same_length)) ∙ e))
          (λ earlier. get_or-set_other ys b p x 0 (λ same. omega arith) ∙ w.laid p lo earlier)
          (le_or_lt b p);
      after = λ p h. get_or-set_other ys b p x 0 (λ same. omega arith) ∙ w.after p (omega arith);
    }

-- up to the same index by another name
pub laid_until : (xs ys : List ℕ) (a b c : ℕ) (byte : ℕ → ℕ) → c ≡ b → Laid xs ys a b byte → Laid xs ys a c byte
laid_until xs ys a b c byte e w = rw e w

-- one part more, and the same letters by another name
pub laid_on :
    (xs ys zs : List ℕ) (a b c : ℕ) (byte : ℕ → ℕ) → a ≤ b → b ≤ c → Laid xs ys a b byte → Laid ys zs b c byte → Laid xs zs a c byte
laid_on xs ys zs a b c byte order further v w =
    record {
      same_length = w.same_length ∙ v.same_length;
      before = λ p h. w.before p (omega arith) ∙ v.before p h;
      laid = λ p lo hi. ⊎_elim (λ later. w.laid p later hi) (λ earlier. w.before p earlier ∙ v.laid p lo earlier) (le_or_lt b p);
      after = λ p h. w.after p h ∙ v.after p (omega arith);
    }

pub laid_as :
    (xs ys : List ℕ) (a b : ℕ) (byte other : ℕ → ℕ) → ((p : ℕ) → a ≤ p → p < b → byte p ≡ other p) → Laid xs ys a b byte → Laid xs ys a b other
laid_as xs ys a b byte other same w =
    record { same_length = w.same_length; before = w.before; laid = λ p lo hi. w.laid p lo hi ∙ same p lo hi; after = w.after }
