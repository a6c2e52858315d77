-- The turns of a tile, down and up: each stage follows from the one before, and at the end the runs solve the tile. This is one induction from the back, which each stage carries with it.
use mathlib.Core.Path.{◌≡◌, sym, ap, subst, ◌∙◌}
use Prim.Native.Nat.{ℕ, suc, ◌+◌, ◌≤◌}
use native.Mathlib.Numerals.{add-one}
use native.Mathlib.Nat.{add-zero}
use native.Mathlib.Omega.{arith}
use Rattle.letters.specs.Algebra.{Letters}
use Rattle.tiles.specs.Even.{Lags}
use Rattle.tiles.specs.Turns.{Lowered, Raised}
use Rattle.tiles.specs.Stages.{Solves, Up, Down}
use Rattle.tiles.proofs.Turn.{turn_undone}

module _ {A : Type 0} (𝓛 : Letters A) (below hi m : ℕ) (lag : ℕ → ℕ → ℕ) (e : ℕ → ℕ) (g : ℕ → ℕ → A) where
  -- before the first turn down
  pub down_start : Down 𝓛.adding below hi m lag e g 0 g
  unfolding Down Up
  down_start z empty solves same =
      subst (λ i. Solves 𝓛.adding i hi m lag g z) (add-zero below) solves

  -- a turn down
  pub down_turn :
      Lags below hi lag e → (k k' j : ℕ) → k' ≡ k + 1 → j ≡ below + k' → j ≤ hi → (x x' : ℕ → ℕ → A)
      → Down 𝓛.adding below hi m lag e g k x → Lowered 𝓛.adding below hi m lag e j hi x x'
      → Down 𝓛.adding below hi m lag e g k' x'
  unfolding Down Up
  down_turn lags k k' j more rank top x x' down lowered =
      subst (λ c. Down 𝓛.adding below hi m lag e g c x') (sym (more ∙ add-one k))
      (λ z empty solves same z' raised.
      down z' raised.empty'
      (turn_undone 𝓛 below hi m lag e lags (below + k) (below + suc k) (omega arith) (omega arith) (omega arith) z z' raised x x'
      (subst (λ c. Lowered 𝓛.adding below hi m lag e c hi x x') (omega arith) lowered) solves
      (same (below + suc k) (omega arith) (omega arith)))
      (λ a la ha p lp hp.
      raised.lower a la (omega arith) p lp hp
      ∙ same a la (omega arith) p lp hp
      ∙ lowered.lower a la (omega arith) p lp hp))

  -- a turn up
  pub up_turn :
      (k k' j : ℕ) → k' ≡ k + 1 → j ≡ below + k' → (x x' : ℕ → ℕ → A) → Up 𝓛.adding below hi m lag e g k' x
      → Raised 𝓛.adding below hi m e j hi x x' → Up 𝓛.adding below hi m lag e g k x'
  unfolding Up
  up_turn k k' j more rank x x' up raised =
      subst (λ c. Up 𝓛.adding below hi m lag e g c x) (more ∙ add-one k) up x'
      (subst (λ c. Raised 𝓛.adding below hi m e c hi x x') (rank ∙ ap (◌+◌ below) (more ∙ add-one k)) raised)

  -- after the last turn up
  pub up_end : (x : ℕ → ℕ → A) → Up 𝓛.adding below hi m lag e g 0 x → Solves 𝓛.adding below hi m lag g x
  unfolding Up
  up_end x up = up
