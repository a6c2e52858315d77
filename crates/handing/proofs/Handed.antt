-- A part is told by what its start is told by, and the empty part means refused: one that isn't refused has at least one letter.
use Rattle.std.specs.Prelude.{Ok, Err}
use mathlib.Core.Path.{◌≡◌, refl, ap, ap₂, ◌∙◌}
use mathlib.Core.List.{List, []}
use Prim.Native.Nat.{ℕ, zero, suc, ◌+◌, ◌≤◌}
use native.Mathlib.Omega.{arith}
use lib.ListN.{length, take, drop, length-drop}
use lib.Seq.{length-take-le}
use denote.Ref.{Bor}
use Rattle.group.specs.Answers.{Answer}
use Rattle.group.specs.Answers.{number_of, value_of, if_fine, Answers}
use Rattle.group.proofs.Refusals.{if_refused, if_fine_lem}
use Rattle.handing.specs.Parts.{PartOf, Within}

-- where the part of an answered start ends
pub within_value : (a : Answer) (v count long : ℕ) → a ≡ Ok v → Within a count long → v + count ≤ long
within_value a v count long e w = omega (arith, w.fits (ap number_of e), ap value_of e)

module _ (count : ℕ) (lent part : Bor (List ℕ)) where
  -- the answer's own number and value stand for what they are said to be
  pub part_of : (a : Answer) (q v : ℕ) → Answers a q v → PartOf (number_of a) (value_of a) count lent part → PartOf q v count lent part
  part_of a q v answers p =
      record {
        letters = p.letters ∙ ap₂ (λ n m. if_fine n (take count (drop m lent.now)) []) answers.number answers.valued ∙ letters_once q;
        block = p.block;
        offset = p.offset ∙ ap₂ (λ n m. lent.ref_ptr.1 + if_fine n m 0) answers.number answers.valued ∙ offset_once q;
      }
    where
      letters_once :
          (q : ℕ) → if_fine q (take count (drop (if_fine q v 0) lent.now)) [] ≡ if_fine q (take count (drop v lent.now)) []
      letters_once zero = refl
      letters_once (suc q) = refl

      offset_once : (q : ℕ) → lent.ref_ptr.1 + if_fine q (if_fine q v 0) 0 ≡ lent.ref_ptr.1 + if_fine q v 0
      offset_once zero = refl
      offset_once (suc q) = refl

  module _ (q start : ℕ) (p : PartOf q start count lent part) where
    pub refused_part : (q ≡ 0 → ⊥) → part.now ≡ []
    refused_part refused = p.letters ∙ if_refused q (take count (drop start lent.now)) [] refused

    pub part_refused : 1 ≤ count → start + count ≤ length lent.now → part.now ≡ [] → q ≡ 0 → ⊥
    part_refused some fits none fine =
        omega (
          arith,
          length-take-le count (drop start lent.now) (rw length-drop (omega arith)),
          ap length (p.letters ∙ if_fine_lem q (take count (drop start lent.now)) [] fine),
          ap length none,
        )
