-- A turn on the way up undoes the same turn on the way down. What it adds to the runs is, moved by their lags, the sum of the runs after j moved right by e j - e b, by the one law of lags; and that is what the turn down divided by.
use mathlib.Core.Path.{◌≡◌, sym, ap, ap₂, ◌∙◌}
use mathlib.Core.Logic.{⊎_elim}
use Prim.Native.Nat.{ℕ, ◌+◌, ◌-◌, ◌≤◌, ◌<◌}
use native.Mathlib.Nat.{eq-or-lt_of_le}
use native.Mathlib.Omega.{arith}
use Rattle.letters.specs.Algebra.{Adding, Letters}
use Rattle.letters.proofs.Cases.{le_or_lt}
use Rattle.letters.proofs.Sums.{plus_twice, plus_right}
use Rattle.tiles.specs.Even.{Lags}
use Rattle.tiles.specs.Turns.{Nothing, Same, Lowered, Raised}
use Rattle.tiles.specs.Stages.{span, Solves}
use Rattle.tiles.proofs.Spans.{span_same, span_plus, span_none, span_last, span_moved, span_first}

-- place 0, and what lies before it
at_none : (p : ℕ) → p ≤ 0 → p ≡ 0
at_none p h = omega arith

none_before : (p d : ℕ) → p ≤ 0 → p - d ≡ 0
none_before p d h = omega arith

unmoved : (p d : ℕ) → d ≡ 0 → p - d ≡ p
unmoved p d h = omega arith

module _ {A : Type 0} (𝓐 : Adding A) where
  -- runs with the same letters are the same at place 0, too
  pub same_all :
      (m : ℕ) (x x' : ℕ → ℕ → A) (a : ℕ) → Nothing 𝓐 x → Nothing 𝓐 x' → Same m (x a) (x' a) → (p : ℕ) → p ≤ m → x' a p ≡ x a p
  same_all m x x' a empty empty' same p h =
      ⊎_elim (λ z. ap (x' a) (at_none p z) ∙ empty' a ∙ sym (ap (x a) (at_none p z) ∙ empty a)) (λ lo. same p lo h) (le_or_lt p 0)

module _ {A : Type 0} (𝓛 : Letters A) where
  -- y is (x + k) + w, so x is k + (y + w)
  undone :
      (x k w y : A) → y ≡ 𝓛.adding.plus (𝓛.adding.plus x k) w → x ≡ 𝓛.adding.plus k (𝓛.adding.plus y w)
  undone x k w y e =
      sym (plus_twice 𝓛 x k)
      ∙ 𝓛.adding.comm (𝓛.adding.plus x k) k
      ∙ ap (𝓛.adding.plus k) (sym (plus_twice 𝓛 (𝓛.adding.plus x k) w) ∙ ap (λ v. 𝓛.adding.plus v w) (sym e))

  module _ (below hi m : ℕ) (lag : ℕ → ℕ → ℕ) (e : ℕ → ℕ) (lags : Lags below hi lag e) (i j : ℕ) (after : j ≡ i + 1) (lo : below ≤ i) (up : j ≤ hi)
      (z z' : ℕ → ℕ → A) (raised : Raised 𝓛.adding below hi m e j hi z z') where
    -- what equation b reads of the runs after j at place p
    abbrev reads : ℕ → ℕ → A
    reads b p = span 𝓛.adding j hi (λ a. z a (p - lag b a))

    -- what the turn makes of run a, also at place 0
    raised_all : (a p : ℕ) → j ≤ a → a < hi → p ≤ m → z' a p ≡ 𝓛.adding.plus (z a p) (z (a + 1) (p - (e j - e (a + 1))))
    raised_all a p la ha hp =
        ⊎_elim
        (λ l.
        ap (z' a) (at_none p l)
        ∙ raised.empty' a
        ∙ sym (𝓛.adding.plus_none 𝓛.adding.none)
        ∙ sym (ap₂ 𝓛.adding.plus (ap (z a) (at_none p l) ∙ raised.empty a)
        (ap (z (a + 1)) (none_before p (e j - e (a + 1)) l) ∙ raised.empty (a + 1))))
        (λ l. raised.turned a p la ha l hp) (le_or_lt p 0)

    -- the runs before the last, moved by their lags, and then the last
    raised_terms :
        (b p h : ℕ) → j ≤ b → b ≤ hi → p ≤ m → hi ≡ h + 1
        → span 𝓛.adding i h (λ a. z' a (p - lag b a))
        ≡ 𝓛.adding.plus (span 𝓛.adding i h (λ a. z a (p - lag b a)))
        (span 𝓛.adding i h (λ a. z (a + 1) ((p - (e j - e b)) - lag b (a + 1))))
    raised_terms b p h lb hb hp last =
        span_same 𝓛.adding i h (λ a. z' a (p - lag b a))
        (λ a. 𝓛.adding.plus (z a (p - lag b a)) (z (a + 1) ((p - (e j - e b)) - lag b (a + 1))))
        (λ a la ha.
        raised_all a (p - lag b a) (omega arith) (omega arith) (omega arith)
        ∙ ap (λ q. 𝓛.adding.plus (z a (p - lag b a)) (z (a + 1) q))
        (crossed p (lag b a) (e j - e (a + 1)) (lag b (a + 1)) (e j - e b)
        (lags.next j b a (omega arith) lb hb (omega arith) (omega arith))))
        ∙ span_plus 𝓛.adding i h (λ a. z a (p - lag b a)) (λ a. z (a + 1) ((p - (e j - e b)) - lag b (a + 1)))
      where
        crossed : (p l d l' d' : ℕ) → l + d ≡ l' + d' → (p - l) - d ≡ (p - d') - l'
        crossed p l d l' d' q = omega arith

    -- all of them: run j, and the runs after it twice, the second time moved right by e j - e b
    raised_reads :
        (b p : ℕ) → j ≤ b → b ≤ hi → p ≤ m
        → span 𝓛.adding i hi (λ a. z' a (p - lag b a))
        ≡ 𝓛.adding.plus (z j (p - lag b j)) (𝓛.adding.plus (reads b p) (reads b (p - (e j - e b))))
    raised_reads b p lb hb hp =
        span_last 𝓛.adding i (hi - 1) hi (λ a. z' a (p - lag b a)) (omega arith) (omega arith)
        ∙ ap₂ 𝓛.adding.plus (raised_terms b p (hi - 1) lb hb hp (omega arith))
        (same_all 𝓛.adding m z z' hi raised.empty raised.empty' (raised.upper hi (omega arith) (omega arith)) (p - lag b hi) (omega arith))
        ∙ plus_right 𝓛.adding (span 𝓛.adding i (hi - 1) (λ a. z a (p - lag b a)))
        (span 𝓛.adding i (hi - 1) (λ a. z (a + 1) ((p - (e j - e b)) - lag b (a + 1)))) (z hi (p - lag b hi))
        ∙ ap₂ 𝓛.adding.plus
        (sym (span_last 𝓛.adding i (hi - 1) hi (λ a. z a (p - lag b a)) (omega arith) (omega arith))
        ∙ span_first 𝓛.adding i j hi (λ a. z a (p - lag b a)) after up)
        (span_moved 𝓛.adding i j (hi - 1) hi (λ a. z a ((p - (e j - e b)) - lag b a)) after (omega arith))
        ∙ 𝓛.adding.assoc (z j (p - lag b j)) (reads b p) (reads b (p - (e j - e b)))

    -- so the turns undo each other
    module _ (x x' : ℕ → ℕ → A) (lowered : Lowered 𝓛.adding below hi m lag e j hi x x') (solves : Solves 𝓛.adding j hi m lag x' z)
        (own : Same m (x' j) (z j)) where
      -- run j is as it was
      own_all : (p : ℕ) → p ≤ m → z j p ≡ x j p
      own_all p hp =
          same_all 𝓛.adding m x' z j lowered.empty' raised.empty own p hp
          ∙ same_all 𝓛.adding m x x' j lowered.empty lowered.empty' (lowered.lower j (omega arith) (omega arith)) p hp

      -- what is read of the runs after j, also at place 0
      solves_all : (b p : ℕ) → j < b → b ≤ hi → p ≤ m → reads b p ≡ x' b p
      solves_all b p lb hb hp =
          ⊎_elim
          (λ l.
          span_none 𝓛.adding j hi (λ a. z a (p - lag b a)) (λ a la ha. ap (z a) (none_before p (lag b a) l) ∙ raised.empty a)
          ∙ sym (ap (x' b) (at_none p l) ∙ lowered.empty' b))
          (λ l. sym (solves b p lb hb l hp)) (le_or_lt p 0)

      -- equation j reads run j alone, since what is added twice is gone
      undone_own : (p : ℕ) → 1 ≤ p → p ≤ m → x j p ≡ span 𝓛.adding i hi (λ a. z' a (p - lag j a))
      undone_own p lp hp =
          sym (raised_reads j p (omega arith) up hp
          ∙ ap₂ 𝓛.adding.plus
          (ap (z j) (unmoved p (lag j j) (lags.own j (omega arith) up)) ∙ own_all p hp)
          (ap (λ q. 𝓛.adding.plus (reads j p) (reads j q)) (unmoved p (e j - e j) (omega arith)) ∙ 𝓛.self-inverse (reads j p))
          ∙ 𝓛.adding.plus_none (x j p))

      -- and a later equation what the turn down took and divided by
      undone_later : (b p : ℕ) → j < b → b ≤ hi → 1 ≤ p → p ≤ m → x b p ≡ span 𝓛.adding i hi (λ a. z' a (p - lag b a))
      undone_later b p lb hb lp hp =
          undone (x b p) (x j (p - lag b j)) (x' b (p - (e j - e b))) (x' b p) (lowered.turned b p lb hb lp hp)
          ∙ sym (raised_reads b p (omega arith) hb hp
          ∙ ap₂ 𝓛.adding.plus (own_all (p - lag b j) (omega arith))
          (ap₂ 𝓛.adding.plus (solves_all b p lb hb hp) (solves_all b (p - (e j - e b)) lb hb (omega arith))))

      pub turn_undone : Solves 𝓛.adding i hi m lag x z'
      turn_undone b p lb hb lp hp =
          ⊎_elim
          (λ q. ap (λ c. x c p) (sym q) ∙ undone_own p lp hp ∙ ap (λ c. span 𝓛.adding i hi (λ a. z' a (p - lag c a))) q)
          (λ l. undone_later b p l hb lp hp) (eq-or-lt_of_le (first b lb))
        where
          first : (b : ℕ) → i < b → j ≤ b
          first b h = omega arith
