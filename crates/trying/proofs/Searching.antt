-- What the tries find: the first that leaves no more than one node that doesn't fit settles the question, and where none does more than one is wrong.
use native.Mathlib.Omega.{arith}
use mathlib.Core.Path.{◌≡◌, sym, subst}
use mathlib.Core.List.{List}
use mathlib.Core.Logic.{⊎_elim}
use Prim.Native.Nat.{ℕ, zero, suc, ◌+◌, ◌-◌, ◌≤◌, ◌<◌}
use lib.ListN.{length}
use Rattle.letters.proofs.Cases.{eq_or_ne}
use Rattle.group.specs.declared.Group.{Group}
use Rattle.agreement.specs.Steps.Trying.{Tried, Compared}
use Rattle.agreement.proofs.Trying.{all_fit, all_but_one_fit, Failed, all_failed}
use Rattle.trying.specs.Searched.{Searched}
use Rattle.present.specs.Steps.Places.{Present}

module _ (g : Group) (ids handed : List ℕ) (here : Present g ids handed) where
  pub enough : g.k + 1 ≤ length ids
  enough = omega (arith, here.spare)

  -- a try that settles it
  pub settles :
      (b : ℕ) (file : List ℕ) (w c p : ℕ) → w < 2 → Tried g ids handed b file → Compared g ids handed file (length ids) w c p
      → Searched g ids handed file w c p
  settles b file zero c p few t k = Searched.agree c p (all_fit g ids handed here.chosen enough b file c p t k)
  settles b file (suc zero) c p few t k =
      let o = all_but_one_fit g ids handed here.chosen enough b file c p t k in
      Searched.odd c p o.odd o.without o.place
  settles b file (suc (suc w)) c p few t k = absurd (omega arith)

  -- the tries without the ranks after b all failed
  abbrev pub AllFailed : ℕ → Type 0
  AllFailed b = (a : ℕ) → b < a → a ≤ g.k + 1 → Failed g ids handed here.chosen enough a

  pub none_tried : AllFailed (g.k + 1)
  none_tried a lo hi = absurd (omega arith)

  -- one more
  pub failed_too :
      (b : ℕ) (file : List ℕ) (w c p : ℕ) → 1 ≤ b → 2 ≤ w → w ≤ 2 → Tried g ids handed b file → Compared g ids handed file (length ids) w c p
      → AllFailed b → AllFailed (b - 1)
  failed_too b file w c p lo more few t k failed a la ha =
      ⊎_elim
      (λ e.
      let two : w ≡ 2 = omega arith in
      subst (Failed g ids handed here.chosen enough) (sym e)
      (record { tried = file; rank = c; place = p; recovered = t; two = subst (λ w. Compared g ids handed file (length ids) w c p) two k }))
      (λ ne. failed a (omega arith) ha)
      (eq_or_ne a b)

  -- all of them
  pub none_settles : (file : List ℕ) (w c p : ℕ) → w ≡ 2 → AllFailed 0 → Searched g ids handed file w c p
  none_settles file w c p e failed =
      subst (λ w. Searched g ids handed file w c p) (sym e)
      (Searched.several c p (all_failed g ids handed here.chosen enough (λ b lo hi. failed b (omega arith) hi)))
