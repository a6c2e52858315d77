-- What the refusals say: who isn't refused is present, with a buffer of the file's length.
use native.Mathlib.Omega.{arith}
use mathlib.Core.Path.{◌≡◌, refl, sym, ap, ◌∙◌}
use mathlib.Core.List.{List}
use Prim.Native.Nat.{ℕ, ◌+◌, ◌≤◌}
use lib.Dec.{eqb, leb}
use lib.ListN.{length}
use borrow.Author.Tests.{eq-eqb, eqb-true, leb-true, le-leb}
use Rattle.group.specs.declared.Group.{Group}
use Rattle.group.specs.Answers.{unless, first}
use Rattle.group.specs.Ranges.{group_refusal}
use Rattle.group.proofs.InRange.{in_range}
use Rattle.group.proofs.Refusals.{first_none, unless_none}
use Rattle.ids.specs.Ids.{ids_refusal, all_in_range, falling}
use Rattle.lengths.specs.Lengths.{file_letters}
use Rattle.matrix.specs.Pieces.{Chosen}
use Rattle.matrix.proofs.ChosenIds.{chosen_of}
use Rattle.agreement.specs.Agreement.{letters_of}
use Rattle.present.specs.Steps.Places.{Present}
use Rattle.odd_checks.specs.Refusals.{present_refusal, lengths_refusal, odd_refusal}

-- as many ids as there are
pub as_many : (g : Group) (ids : List ℕ) → ids_refusal g (length ids) ids ≡ first (unless (all_in_range g.n ids) 3) (unless (falling ids) 4)
unfolding ids_refusal
as_many g ids = simp (eq-eqb (length ids) (length ids) refl) refl

pub chosen_all : (g : Group) (ids : List ℕ) → present_refusal g ids ≡ 0 → Chosen g (length ids) ids
unfolding present_refusal
chosen_all g ids e =
    let w = first_none (group_refusal g) (first (unless (all_in_range g.n ids) 3) (unless (falling ids) 4)) e in
    chosen_of g (length ids) ids (in_range g w.0) (as_many g ids ∙ w.1)

-- 5 and 13 are out: what is left is 6
pub six_is_left :
    (g : Group) (ids : List ℕ) (packets file wanted number : ℕ) → packets ≡ letters_of g ids (length ids) → g.k + 2 ≤ length ids
    → wanted ≡ file_letters g → number ≡ unless (eqb file wanted) 6 → number ≡ lengths_refusal g ids packets file
unfolding lengths_refusal
six_is_left g ids packets file wanted number e h is n =
    n
    ∙ ap (λ m. unless (eqb file m) 6) is
    ∙ sym (simp (eq-eqb packets (letters_of g ids (length ids)) e, le-leb (g.k + 2) (length ids) h) refl)

-- who isn't refused
module _ (g : Group) (ids : List ℕ) (packets file : ℕ) (e : odd_refusal g ids packets file ≡ 0) where
  first_part : present_refusal g ids ≡ 0
  unfolding odd_refusal
  first_part = (first_none (present_refusal g ids) (lengths_refusal g ids packets file) e).0

  second_part :
      (packets ≡ letters_of g ids (length ids)) × (g.k + 2 ≤ length ids) × (file ≡ file_letters g)
  unfolding odd_refusal lengths_refusal
  second_part =
      let w = (first_none (present_refusal g ids) (lengths_refusal g ids packets file) e).1 in
      let v =
      first_none (unless (eqb packets (letters_of g ids (length ids))) 5)
      (first (unless (leb (g.k + 2) (length ids)) 13) (unless (eqb file (file_letters g)) 6)) w in
      let u = first_none (unless (leb (g.k + 2) (length ids)) 13) (unless (eqb file (file_letters g)) 6) v.1 in (
        eqb-true packets (letters_of g ids (length ids)) (unless_none (eqb packets (letters_of g ids (length ids))) 5 (λ q. omega arith) v.0),
        leb-true (g.k + 2) (length ids) (unless_none (leb (g.k + 2) (length ids)) 13 (λ q. omega arith) u.0),
        eqb-true file (file_letters g) (unless_none (eqb file (file_letters g)) 6 (λ q. omega arith) u.1),
      )

  pub chosen_here : Chosen g (length ids) ids
  chosen_here = chosen_all g ids first_part

  pub room_here : file ≡ file_letters g
  room_here = second_part.2

  pub present_here : (handed : List ℕ) → packets ≡ length handed → Present g ids handed
  present_here handed is = record { chosen = chosen_here; spare = second_part.1; long = sym is ∙ second_part.0 }
