-- A turn goes rank by rank: a step changes one run and reads runs that the turn leaves alone, or has not come to.
use mathlib.Core.Path.{◌≡◌, refl, sym, ap, ap₂, ◌∙◌}
use mathlib.Core.Logic.{⊎_elim}
use Prim.Native.Nat.{ℕ, ◌+◌, ◌-◌, ◌≤◌, ◌<◌}
use native.Mathlib.Nat.{eq-or-lt_of_le}
use native.Mathlib.Omega.{arith}
use Rattle.letters.specs.Algebra.{Adding}
use Rattle.tiles.specs.Turns.{Added, SummedUp, Same, Nothing, Only, Lowered, Raised}
use Rattle.tiles.proofs.Turn.{same_all}

module _ {A : Type 0} (𝓐 : Adding A) (below hi m : ℕ) (e : ℕ → ℕ) where
  -- a turn down begins at its own rank,
  pub lowered_start : (lag : ℕ → ℕ → ℕ) (j : ℕ) (x : ℕ → ℕ → A) → Nothing 𝓐 x → Lowered 𝓐 below hi m lag e j j x x
  lowered_start lag j x empty =
      record {
        empty = empty;
        empty' = empty;
        lower = λ a la ha p lp hp. refl;
        turned = λ b p lb hb lp hp. absurd (omega arith);
        upper = λ a la ha p lp hp. refl;
      }

  -- and goes on to the rank after: run j is added to it, moved right by its lag, and it is summed up
  pub lowered_more :
      (lag : ℕ → ℕ → ℕ) (j c d : ℕ) → below < j → j ≤ c → d ≡ c + 1 → d ≤ hi → (x y z x' : ℕ → ℕ → A) → Lowered 𝓐 below hi m lag e j c x y
      → Only below hi m d y z → Added 𝓐 m (lag d j) (y j) (y d) (z d)
      → Only below hi m d z x' → SummedUp 𝓐 m (e j - e d) (z d) (x' d) → Nothing 𝓐 x' → Lowered 𝓐 below hi m lag e j d x x'
  lowered_more lag j c d lj hj next hd x y z x' turn only added only' summed empty =
      record {
        empty = turn.empty;
        empty' = empty;
        lower = λ a la ha p lp hp. others a la (omega arith) (λ q. omega arith) p lp hp ∙ turn.lower a la ha p lp hp;
        turned =
            λ b p lb hb lp hp.
            ⊎_elim (λ q. rw q (last p lp hp))
            (λ l.
            others b (omega arith) (omega arith) (λ q. omega arith) p lp hp
            ∙ turn.turned b p lb (omega arith) lp hp
            ∙ ap (𝓐.plus (𝓐.plus (x b p) (x j (p - lag b j))))
            (sym (same_all 𝓐 m y x' b turn.empty' empty (others b (omega arith) (omega arith) (λ q. omega arith)) (p - (e j - e b)) (omega arith))))
            (eq-or-lt_of_le hb);
        upper = λ a la ha p lp hp. others a (omega arith) ha (λ q. omega arith) p lp hp ∙ turn.upper a (omega arith) ha p lp hp;
      }
    where
      others : (a : ℕ) → below < a → a ≤ hi → (a ≡ d → ⊥) → Same m (y a) (x' a)
      others a la ha ne p lp hp = only' a la ha ne p lp hp ∙ only a la ha ne p lp hp

      last : (p : ℕ) → 1 ≤ p → p ≤ m → x' d p ≡ 𝓐.plus (𝓐.plus (x d p) (x j (p - lag d j))) (x' d (p - (e j - e d)))
      last p lp hp =
          summed p lp hp
          ∙ ap (λ v. 𝓐.plus v (x' d (p - (e j - e d))))
          (added p lp hp
          ∙ ap₂ 𝓐.plus (turn.upper d (omega arith) hd p lp hp)
          (same_all 𝓐 m x y j turn.empty turn.empty' (turn.lower j lj (omega arith)) (p - lag d j) (omega arith)))

  -- a turn up begins at its own rank,
  pub raised_start : (j : ℕ) (x : ℕ → ℕ → A) → Nothing 𝓐 x → Raised 𝓐 below hi m e j j x x
  raised_start j x empty =
      record {
        empty = empty;
        empty' = empty;
        lower = λ a la ha p lp hp. refl;
        turned = λ b p lb hb lp hp. absurd (omega arith);
        upper = λ a la ha p lp hp. refl;
      }

  -- and goes on to the rank after, which is added to the one that it comes from
  pub raised_more :
      (j c d : ℕ) → below < j → j ≤ c → d ≡ c + 1 → d ≤ hi → (x y x' : ℕ → ℕ → A) → Raised 𝓐 below hi m e j c x y
      → Only below hi m c y x' → Added 𝓐 m (e j - e d) (y d) (y c) (x' c) → Nothing 𝓐 x' → Raised 𝓐 below hi m e j d x x'
  raised_more j c d lj hj next hd x y x' turn only added empty =
      record {
        empty = turn.empty;
        empty' = empty;
        lower = λ a la ha p lp hp. only a la (omega arith) (λ q. omega arith) p lp hp ∙ turn.lower a la ha p lp hp;
        turned =
            λ b p lb hb lp hp.
            ⊎_elim (λ q. rw q (last p lp hp))
            (λ l. only b (omega arith) (omega arith) (λ q. omega arith) p lp hp ∙ turn.turned b p lb l lp hp)
            (eq-or-lt_of_le (come b hb));
        upper = λ a la ha p lp hp. only a (omega arith) ha (λ q. omega arith) p lp hp ∙ turn.upper a (omega arith) ha p lp hp;
      }
    where
      come : (b : ℕ) → b < d → b ≤ c
      come b h = omega arith

      last : (p : ℕ) → 1 ≤ p → p ≤ m → x' c p ≡ 𝓐.plus (x c p) (x (c + 1) (p - (e j - e (c + 1))))
      last p lp hp =
          added p lp hp
          ∙ ap₂ 𝓐.plus (turn.upper c (omega arith) (omega arith) p lp hp)
          (same_all 𝓐 m x y d turn.empty turn.empty' (turn.upper d (omega arith) hd) (p - (e j - e d)) (omega arith)
          ∙ ap (λ a. x a (p - (e j - e a))) next)
