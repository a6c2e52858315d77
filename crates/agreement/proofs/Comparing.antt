-- Comparing rank after rank: what one rank more makes of what was found so far.
use mathlib.Core.Path.{◌≡◌, sym, subst, ◌∙◌}
use mathlib.Core.List.{List}
use mathlib.Core.Logic.{◌⊎◌, ⊎_elim}
use Prim.Native.Nat.{ℕ, zero, suc, ◌+◌, ◌≤◌}
use native.Mathlib.Omega.{arith}
use lib.ListN.{length}
use Rattle.letters.specs.Algebra.{xors}
use Rattle.letters.proofs.Cases.{eq_or_ne}
use Rattle.group.specs.declared.Group.{Group}
use Rattle.sequences.specs.Lists.{ranked}
use Rattle.matrix.specs.Matrix.{packets}
use Rattle.matrix.proofs.Product.{length_packets}
use Rattle.agreement.specs.Agreement.{letters_of, handed_by, FirstWrong, Gives}
use Rattle.agreement.specs.Steps.Trying.{Compared}
use Rattle.agreement.proofs.Handed.{length_handed}
use Rattle.agreement.proofs.FirstWrong.{wrong_differs, compare}

module _ (g : Group) (ids handed file : List ℕ) where
  -- the rank that comes next fits, or has a first wrong letter
  abbrev pub Fits : ℕ → Type 0
  Fits v = Gives g ids handed file v

  abbrev pub WrongAt : ℕ → ℕ → Type 0
  WrongAt v p = FirstWrong (handed_by g ids handed v) (packets xors g file (ranked ids v)) p

  not_fit : (v p : ℕ) → WrongAt v p → Fits v → ⊥
  not_fit v p w = wrong_differs (handed_by g ids handed v) (packets xors g file (ranked ids v)) p w

  pub compared_none : Compared g ids handed file 0 0 0 0
  compared_none = Compared.nobody (λ v lo hi. absurd (omega arith))

  -- one more that fits changes nothing
  with_next : (m : ℕ) → Fits (m + 1) → (v : ℕ) → v ≤ m + 1 → (v ≤ m → Fits v) → Fits v
  with_next m fits v hi before = ⊎_elim (λ e. subst Fits (sym e) fits) (λ ne. before (omega arith)) (eq_or_ne v (m + 1))

  pub next_fits : (m w r p : ℕ) → Compared g ids handed file m w r p → Fits (m + 1) → Compared g ids handed file (m + 1) w r p
  next_fits m w r p (Compared.nobody all) fits = Compared.nobody (λ v lo hi. with_next m fits v hi (λ h. all v lo h))
  next_fits m w r p (Compared.one _ _ lo hi first rest) fits =
      Compared.one r p lo (omega arith) first (λ v l h ne. with_next m fits v h (λ h. rest v l h ne))
  next_fits m w r p (Compared.several a b _ _ la h hb wa wb) fits = Compared.several a b r p la h (omega arith) wa wb

  -- the first that doesn't fit
  pub first_wrong : (m q : ℕ) (r p : ℕ) → Compared g ids handed file m 0 r p → WrongAt (m + 1) q → Compared g ids handed file (m + 1) 1 (m + 1) q
  first_wrong m q r p (Compared.nobody all) w =
      Compared.one (m + 1) q (omega arith) (omega arith) w (λ v lo hi ne. all v lo (omega arith))

  -- another one
  pub another_wrong :
      (m q : ℕ) (r p : ℕ) → Compared g ids handed file m 1 r p → WrongAt (m + 1) q → Compared g ids handed file (m + 1) 2 r p
  another_wrong m q r p (Compared.one _ _ lo hi first rest) w =
      Compared.several r (m + 1) r p lo (omega arith) (omega arith) (not_fit r p first) (not_fit (m + 1) q w)

  -- more are more, whatever comes behind
  pub still_several :
      (m n r p : ℕ) → m ≤ n → Compared g ids handed file m 2 r p → Compared g ids handed file n 2 r p
  still_several m n r p further (Compared.several a b _ _ la h hb wa wb) = Compared.several a b r p la h (omega arith) wa wb

  -- any file can be compared with all
  pub record Comparison (ranks : ℕ) : Type 0 where
    pub wrong : ℕ
    pub rank : ℕ
    pub place : ℕ
    pub told : Compared g ids handed file ranks wrong rank place
    pub few : wrong ≤ 2

  wrong_next : (m q w r p : ℕ) → Compared g ids handed file m w r p → WrongAt (m + 1) q → Comparison (m + 1)
  wrong_next m q w r p (Compared.nobody all) x = record { wrong = 1; rank = m + 1; place = q; told = first_wrong m q 0 0 (Compared.nobody all) x; few = omega arith }
  wrong_next m q w r p (Compared.one c s lo hi first rest) x =
      record { wrong = 2; rank = r; place = p; told = another_wrong m q r p (Compared.one c s lo hi first rest) x; few = omega arith }
  wrong_next m q w r p (Compared.several a b c s la h hb wa wb) x =
      record { wrong = 2; rank = r; place = p; told = still_several m (m + 1) r p (omega arith) (Compared.several a b c s la h hb wa wb); few = omega arith }

  module _ (long : length handed ≡ letters_of g ids (length ids)) where
    pub compared_to : (m : ℕ) → m ≤ length ids → Comparison m
    compared_to zero h = record { wrong = 0; rank = 0; place = 0; told = compared_none; few = omega arith }
    compared_to (suc m) h =
        let before = compared_to m (omega arith) in
        let one_more : m + 1 ≡ suc m = omega arith in
        subst Comparison one_more
        (⊎_elim
        (λ fits. record { wrong = before.wrong; rank = before.rank; place = before.place; told = next_fits m before.wrong before.rank before.place before.told fits; few = before.few })
        (λ found. wrong_next m found.0 before.wrong before.rank before.place before.told found.1)
        (compare (handed_by g ids handed (m + 1)) (packets xors g file (ranked ids (m + 1)))
        (length_handed g ids handed long (m + 1) (omega arith) (omega arith) ∙ sym (length_packets xors g file (ranked ids (m + 1))))))
